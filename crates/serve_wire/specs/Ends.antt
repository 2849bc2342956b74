-- What one read and one write of an end do. Source: mcgate's own.
use Rattle.std.specs.Prelude.{◌≡◌, ℕ, ◌<◌, ◌≤◌, nat_eq, Bool, false, ◌&&◌, ◌||◌, ◌⊎◌, [], ◌∷◌, ◌++◌, List, length, take, drop}
use Rattle.serve_wire.specs.Events.{WireEvent, delivers, takes, ends, fails}
use Rattle.serve_wire.specs.declared.conn.conn.Conn.{Conn}
use Rattle.serve_wire.specs.declared.conn.conn.Got.{Got}
use Rattle.serve_wire.specs.declared.conn.conn.Got.TheVariants as got
use Rattle.serve_wire.specs.declared.conn.conn.Sent.{Sent}
use Rattle.serve_wire.specs.declared.conn.conn.Sent.TheVariants as sent

-- of an end nothing has changed but what it holds, and the room for that
abbrev pub HoldsAnew : Conn → Conn → Type 0
HoldsAnew x y = y ≡ record x { held = y.held; other = y.other; is_cut = y.is_cut }

-- nothing stands in an end's other buffer, and it has room for so many bytes
abbrev pub HasRoomAgain : ℕ → Conn → Type 0
HasRoomAgain room x = (x.other.items ≡ []) × (room ≤ x.other.spare)

-- bytes came over the connection, and stand after those that are held
pub record ComesOver (c : ℕ) (held held' : List ℕ) (h h' : List WireEvent) : Type 0 where
  pub bytes : List ℕ
  pub some : 0 < length bytes
  pub held_is : held' ≡ held ++ bytes
  pub noted : h' ≡ delivers c bytes ∷ h

-- what is held, and what has happened, before and after a read of a connection, where so many bytes may be held
abbrev pub ReadsConnection : ℕ → ℕ → List ℕ → Got → List ℕ → List WireEvent → List WireEvent → Type 0
ReadsConnection c limit held got.Bytes held' h h' = (length held < limit) × ComesOver c held held' h h'
ReadsConnection c limit held got.Nothing held' h h' = (length held < limit) × (held' ≡ held) × (h' ≡ h)
ReadsConnection c limit held got.Full held' h h' = (limit ≤ length held) × (held' ≡ held) × (h' ≡ h)
ReadsConnection c limit held got.Ended held' h h' = (length held < limit) × (held' ≡ held) × (h' ≡ ends c ∷ h)
ReadsConnection c limit held got.Failed held' h h' = (length held < limit) × (held' ≡ held) × (h' ≡ fails c ∷ h)

-- `readable` before and after a read that leaves so much room: bytes clear it if room is left and the peer isn't closing, `Nothing` may clear it, and else it stays
abbrev pub StaysReadable : Got → Bool → ℕ → Bool → Bool → Type 0
StaysReadable got.Bytes closing left readable readable' = readable' ≡ (readable && (closing || nat_eq left 0))
StaysReadable got.Nothing closing left readable readable' = (readable' ≡ readable) ⊎ (readable' ≡ false)
StaysReadable got.Full closing left readable readable' = readable' ≡ readable
StaysReadable got.Ended closing left readable readable' = readable' ≡ readable
StaysReadable got.Failed closing left readable readable' = readable' ≡ readable

-- the connection took the first bytes of what is to be sent, and the others stay
pub record GoesOut (c : ℕ) (unsent unsent' : List ℕ) (h h' : List WireEvent) : Type 0 where
  pub count : ℕ
  pub some : 0 < count
  pub few : count ≤ length unsent
  pub unsent_is : unsent' ≡ drop count unsent
  pub noted : h' ≡ takes c (take count unsent) ∷ h

-- what is to be sent, and what has happened, before and after a write
abbrev pub Sends : ℕ → List ℕ → Sent → List ℕ → List WireEvent → List WireEvent → Type 0
Sends c unsent sent.Bytes unsent' h h' = GoesOut c unsent unsent' h h'
Sends c unsent sent.Nothing unsent' h h' = (unsent' ≡ unsent) × (h' ≡ h)
Sends c unsent sent.Failed unsent' h h' = (unsent' ≡ unsent) × (h' ≡ fails c ∷ h)

-- `writable` before and after a write: `Nothing` may clear it, and else it stays
abbrev pub StaysWritable : Sent → Bool → Bool → Type 0
StaysWritable sent.Bytes writable writable' = writable' ≡ writable
StaysWritable sent.Nothing writable writable' = (writable' ≡ writable) ⊎ (writable' ≡ false)
StaysWritable sent.Failed writable writable' = writable' ≡ writable
