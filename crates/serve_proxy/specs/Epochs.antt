-- Servers that follow each other at one address: when calls go to each. Source: mcgate's own.
use Rattle.std.specs.Prelude.{◌≡◌, ◌⊎◌, ℕ, ◌<◌, Bool, true, false, List, length, Option, Some, None, slice_get}
use Rattle.std.specs.Str.{bytes_eq}
use Rattle.route_json.specs.NumberedServers.{Addresses}
use Rattle.route_json.specs.ServerNames.{address_in, have_epochs, epoch_is_over}
use Rattle.serve_links.specs.declared.link.Link.{Link}
use Rattle.serve_links.specs.Epochs.{is_retired, with_retired, LinkIsQuiet}

-- two names have one address
abbrev pub have_one_address : Option (List ℕ) → Option (List ℕ) → Bool
have_one_address None other = false
have_one_address (Some one) None = false
have_one_address (Some one) (Some other) = bytes_eq (address_in one) (address_in other)

-- these two servers have one address
abbrev pub share_address : Addresses → ℕ → ℕ → Bool
share_address names one other = have_one_address (slice_get names one) (slice_get names other)

-- the servers before this one at its address have no calls any more
abbrev pub HaveEnded : Addresses → ℕ → List Link → Type 0
HaveEnded names at links =
    (earlier : ℕ) → earlier < at → share_address names earlier at ≡ true → (link : Link) → slice_get links earlier ≡ Some link → LinkIsQuiet link

-- no server comes after this one at its address, or this one has calls still
abbrev pub IsNeeded : Addresses → ℕ → Link → Type 0
IsNeeded names at link = (epoch_is_over names at ≡ false) ⊎ (LinkIsQuiet link → ⊥)

-- calls go to this server only once those before it at its address have none any more, and where one comes after it there, only while it has calls still
abbrev pub EpochIsInTurn : Addresses → List Link → ℕ → Type 0
EpochIsInTurn names links at = (link : Link) → slice_get links at ≡ Some link → is_retired link ≡ false → IsNeeded names at link × HaveEnded names at links

-- if some of these servers have epochs, calls go to each of them only once those before it at its address have none any more, and where one comes after it there, only while it has calls still
abbrev pub EpochsAreInTurn : Addresses → List Link → Type 0
EpochsAreInTurn names links = have_epochs names ≡ true → (at : ℕ) → at < length names → EpochIsInTurn names links at

-- whether calls go to the link of this number is set, and nothing else
pub record Retires (at : ℕ) (retired : Bool) (old new : List Link) : Type 0 where
  pub one : (link : Link) → slice_get new at ≡ Some link → is_retired link ≡ retired
  pub others : (i : ℕ) (link : Link) → (i ≡ at → ⊥) → slice_get new i ≡ Some link → slice_get old i ≡ Some link
  pub same : (i : ℕ) (link : Link) → slice_get new i ≡ Some link → (was : Link) × (slice_get old i ≡ Some was) × (link ≡ with_retired (is_retired link) was)
