-- Steps by which calls are late, and the limits of their servers.
use Rattle.std.proofs.Common.{◌≡◌, ℕ, zero, suc, List, [], ◌∷◌, ◌++◌, Option, Some, None, sym, ap, ◌∙◌, subst}
use Rattle.std.specs.Prelude.{slice_get}
use Rattle.std.specs.Option.{option_map}
use Rattle.serve_links.specs.declared.settings.LinkLimits.{LinkLimits}
use Rattle.serve_links.specs.declared.link.Link.{Link}
use Rattle.serve_links.specs.CoreSteps.{Obstacle, WaitedLong, StoreLate, ForeignCame, LeftAlone, ManyWait, Step, Opened, NotOpened, Fed, Polled, Stopped, Settled, Gave, Closed, LeftLine, Broke, Ticked, Loaded, Linked, Asked, Greeted, Spelled, Late, CameLate, Lost, Noted, StepsAreOf}
use Rattle.serve_links.specs.Talks.{IsOfClients, IsOfServer}
use Rattle.serve_links.specs.Story.{address_and_opened, address_and_limits, server_and_opened, servers_of, most_of, ObstacleIsByLimit, IsByLimit, KeepsServer, KeepsServers}
use Rattle.serve_links.proofs.Talking.{clients_plain}
use Rattle.serve_links.proofs.Walked.{of_both}
use Rattle.serve_links.proofs.Showing.{IsUnlost, plain_unlost}

-- steps by which no call is late
pub unlost_late : (most : ℕ → Option LinkLimits) (steps : List Step) → StepsAreOf IsUnlost steps → StepsAreOf (IsByLimit most) steps
unlost_late most [] kinds = tt
unlost_late most (step ∷ steps) kinds = (by step kinds.0, unlost_late most steps kinds.1)
  where
    by : (s : Step) → IsUnlost s → IsByLimit most s
    by (Lost at why limit) is = absurd is
    by (Opened client) is = tt
    by (NotOpened fault) is = tt
    by (Fed client piece) is = tt
    by (Polled client poll) is = tt
    by (Stopped client fault) is = tt
    by (Settled number outcome) is = tt
    by (Gave client bytes) is = tt
    by (Closed client) is = tt
    by (LeftLine client) is = tt
    by (Ticked now) is = tt
    by (Broke client) is = tt
    by (Loaded configuration generation) is = tt
    by (Linked at dialect) is = tt
    by (Asked at number dialect ask since) is = tt
    by (Greeted at dialect bytes) is = tt
    by (Noted at obstacle) is = absurd is
    by (Late at number limit now) is = absurd is
    by (CameLate at number ask answer bytes) is = tt
    by (Spelled at number ask answer bytes) is = tt

-- steps of one server, of which both say the same
own_late : (most most' : ℕ → Option LinkLimits) (i : ℕ) (steps : List Step) → most' i ≡ most i → StepsAreOf (IsOfServer i) steps → StepsAreOf (IsByLimit most) steps → StepsAreOf (IsByLimit most') steps
own_late most most' i [] same own late = tt
own_late most most' i (step ∷ steps) same own late = (by step own.0 late.0, own_late most most' i steps same own.1 late.1)
  where
    its_limit : (of : LinkLimits → ℕ) (at limit : ℕ) → at ≡ i → option_map of (most at) ≡ Some limit → option_map of (most' at) ≡ Some limit
    its_limit of at limit its is = ap (option_map of) (ap most' its ∙ same ∙ sym (ap most its)) ∙ is

    its_obstacle : (at : ℕ) (obstacle : Obstacle) → at ≡ i → ObstacleIsByLimit (most at) obstacle → ObstacleIsByLimit (most' at) obstacle
    its_obstacle at (WaitedLong number limit) its is = its_limit (λ (limits : LinkLimits). limits.call_ms) at limit its is
    its_obstacle at (StoreLate limit) its is = its_limit (λ (limits : LinkLimits). limits.call_ms) at limit its is
    its_obstacle at ForeignCame its is = tt
    its_obstacle at (LeftAlone limit) its is = its_limit (λ (limits : LinkLimits). limits.fail_limit) at limit its is
    its_obstacle at ManyWait its is = tt

    by : (s : Step) → IsOfServer i s → IsByLimit most s → IsByLimit most' s
    by (Lost at why limit) its is = its_limit (λ (limits : LinkLimits). limits.connect_ms) at limit its is
    by (Opened client) its is = tt
    by (NotOpened fault) its is = tt
    by (Fed client piece) its is = tt
    by (Polled client poll) its is = tt
    by (Stopped client fault) its is = tt
    by (Settled number outcome) its is = tt
    by (Gave client bytes) its is = tt
    by (Closed client) its is = tt
    by (LeftLine client) its is = tt
    by (Ticked now) its is = tt
    by (Broke client) its is = tt
    by (Loaded configuration generation) its is = tt
    by (Linked at dialect) its is = tt
    by (Asked at number dialect ask since) its is = tt
    by (Greeted at dialect bytes) its is = tt
    by (Noted at obstacle) its is = its_obstacle at obstacle its is
    by (Late at number limit now) its is = its_limit (λ (limits : LinkLimits). limits.call_ms) at limit its is
    by (CameLate at number ask answer bytes) its is = tt
    by (Spelled at number ask answer bytes) its is = tt

-- ---- one link

pub same_server : (x y : Link) → y.text.items ≡ x.text.items → y.limits ≡ x.limits → address_and_limits y ≡ address_and_limits x
same_server x y text limits = ap (λ (t : List ℕ). let s : List ℕ × LinkLimits = (t, y.limits) in s) text ∙ ap (λ (l : LinkLimits). let s : List ℕ × LinkLimits = (x.text.items, l) in s) limits

pub same_text : (x y : Link) → address_and_limits y ≡ address_and_limits x → y.text.items ≡ x.text.items
same_text x y same = ap (λ (s : List ℕ × LinkLimits). s.0) same

-- and since when it has its connection, and how many in a row were given up, too
pub same_place : (x y : Link) → y.text.items ≡ x.text.items → y.limits ≡ x.limits → y.opened ≡ x.opened → y.lost ≡ x.lost → server_and_opened y ≡ server_and_opened x
same_place x y text limits opened lost =
    ap (λ (s : List ℕ × LinkLimits). let p : (List ℕ × LinkLimits) × ℕ × ℕ = (s, y.opened, y.lost) in p) (same_server x y text limits)
    ∙ ap (λ (t : ℕ). let p : (List ℕ × LinkLimits) × ℕ × ℕ = (address_and_limits x, t, y.lost) in p) opened ∙ ap (λ (n : ℕ). let p : (List ℕ × LinkLimits) × ℕ × ℕ = (address_and_limits x, x.opened, n) in p) lost

pub place_server : (x y : Link) → server_and_opened y ≡ server_and_opened x → address_and_limits y ≡ address_and_limits x
place_server x y same = ap (λ (p : (List ℕ × LinkLimits) × ℕ × ℕ). p.0) same

pub same_opening : (x y : Link) → server_and_opened y ≡ server_and_opened x → address_and_opened y ≡ address_and_opened x
same_opening x y same = ap (λ (p : (List ℕ × LinkLimits) × ℕ × ℕ). let o : List ℕ × ℕ = (p.0.0, p.1) in o) same

pub same_lost : (x y : Link) → server_and_opened y ≡ server_and_opened x → y.lost ≡ x.lost
same_lost x y same = ap (λ (p : (List ℕ × LinkLimits) × ℕ × ℕ). p.2) same

-- one after another
pub server_then : (first later : List Step) (x y z : Link) → KeepsServer first x y → KeepsServer later y z → KeepsServer (later ++ first) x z
server_then first later x y z g k = record {
  same = k.same ∙ g.same;
  late = of_both (IsByLimit (λ at. Some x.limits)) later first (subst (λ (s : List ℕ × LinkLimits). StepsAreOf (IsByLimit (λ at. Some s.1)) later) g.same k.late) g.late;
}

-- ---- all links

-- where nothing is said of calls that are late
pub servers_same : (xs ys : List Link) → servers_of ys ≡ servers_of xs → KeepsServers [] xs ys
servers_same xs ys same = record { same = same; late = tt }

pub servers_then : (first later : List Step) (xs ys zs : List Link) → KeepsServers first xs ys → KeepsServers later ys zs → KeepsServers (later ++ first) xs zs
servers_then first later xs ys zs g k = record {
  same = k.same ∙ g.same;
  late = of_both (IsByLimit (most_of (servers_of xs))) later first (subst (λ (s : List (List ℕ × LinkLimits)). StepsAreOf (IsByLimit (most_of s)) later) g.same k.late) g.late;
}

-- by steps that tell nothing of servers
pub clients_servers : (steps : List Step) (xs ys : List Link) → StepsAreOf IsOfClients steps → servers_of ys ≡ servers_of xs → KeepsServers steps xs ys
clients_servers steps xs ys own same = record { same = same; late = unlost_late (most_of (servers_of xs)) steps (plain_unlost steps (clients_plain steps own)) }

pub most_there : (links : List Link) (at : ℕ) (x : Link) → slice_get links at ≡ Some x → most_of (servers_of links) at ≡ Some x.limits
most_there [] at x is = absurd (none_some is)
  where
    none_some : None ≡ Some x → ⊥
    none_some e = cc
most_there (link ∷ links) zero x is = ap (option_map (λ (l : Link). l.limits)) is
most_there (link ∷ links) (suc at) x is = most_there links at x is

-- by those of one of them
pub line_servers :
    (at : ℕ) (steps : List Step) (old new : List Link) (x y : Link) → slice_get old at ≡ Some x → servers_of new ≡ servers_of old → StepsAreOf (IsOfServer at) steps → KeepsServer steps x y → KeepsServers steps old new
line_servers at steps old new x y was same own g = record { same = same; late = own_late (λ i. Some x.limits) (most_of (servers_of old)) at steps (most_there old at x was) own g.late }
