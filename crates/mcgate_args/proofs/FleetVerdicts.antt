-- What is printed of the configurations of a fleet.
use Rattle.std.proofs.Common.{◌≡◌, ℕ, suc, ◌+◌, length, List, [], ◌∷◌, ◌++◌, Option, Some, None, Result, Ok, Err, inl, inr, refl, sym, ap, ◌∙◌, subst, arith, append_assoc}
use Rattle.std.specs.Prelude.{IfErr, IfOk, string_bytes}
use Rattle.serde_json.specs.Read.{read}
use Rattle.route_json.specs.Configs.{read_or, read_after}
use Rattle.route_json.specs.Configuration.{Configuration}
use Rattle.route_json.specs.Servers.{Addresses}
use Rattle.mcgate_lines.specs.Faults.{PrintsFault, StopsUnwritten}
use Rattle.mcgate_lines.specs.declared.status.RunFault.{RunFault}
use Rattle.mcgate_lines.specs.declared.status.RunFault.TheVariants.{NoMemory, Writer, TooManyCalls}
use Rattle.mcgate_args.specs.Fleets.{JudgesAlone, ChecksAlone, FindsRefused, AreRead, AddsRead, TextIsAccepted}
use Rattle.mcgate_ends.specs.declared.fleets.faults.FleetFile.{FleetFile}
use Rattle.mcgate_args.specs.declared.fleets.checking.FleetEnd.{FleetEnd}

-- ---- by itself

judged : (text : List ℕ) (config : Configuration) (old new : Option (List ℕ)) (told : Option ℕ) → read_or (read text) ≡ Ok (config.tree, config.servers) → JudgesAlone config old new told → ChecksAlone text old new told
judged text config old new None said h = ((config, said, h.0), h.1)
judged text config old new (Some status) said h = ((λ e. let f = h.0 in absurd (omega (arith, e, f))), inl (record { config = config; said = said; reports = inr (h.0, h.1, h.2) }))

pub judged_alone : (text : List ℕ) (config : Configuration) (old new : Option (List ℕ)) (r : Result (Option ℕ) RunFault) → read_or (read text) ≡ Ok (config.tree, config.servers) → IfOk r (JudgesAlone config old new) → IfOk r (ChecksAlone text old new)
judged_alone text config old new (Ok told) said h = judged text config old new told said h
judged_alone text config old new (Err fault) said h = tt

pub faulty : (text : List ℕ) (old new : Option (List ℕ)) (status : ℕ) → (status ≡ 2) × PrintsFault text old new → ChecksAlone text old new (Some status)
faulty text old new status h = ((λ e. let f = h.0 in absurd (omega (arith, e, f))), inr h)

-- ---- one after another

later : (index : ℕ) (file : FleetFile) (files : List FleetFile) (old mid new : Option (List ℕ)) (told : Option FleetEnd) → ChecksAlone (string_bytes file.text) old mid None → FindsRefused (index + 1) files mid new told → FindsRefused index (file ∷ files) old new told
later index file files old mid new None alone h = ((alone.0, h.0), h.1 ∙ alone.1)
later index file files old mid new (Some end) alone h = inr (alone.0, subst (λ (o : Option (List ℕ)). FindsRefused (index + 1) files o new (Some end)) alone.1 h)

pub found_later : (index : ℕ) (file : FleetFile) (files : List FleetFile) (old mid new : Option (List ℕ)) (r : Result (Option FleetEnd) RunFault) → ChecksAlone (string_bytes file.text) old mid None → IfOk r (FindsRefused (index + 1) files mid new) → IfOk r (FindsRefused index (file ∷ files) old new)
found_later index file files old mid new (Ok told) alone h = later index file files old mid new told alone h
found_later index file files old mid new (Err fault) alone h = tt

unwritten : (old mid new : Option (List ℕ)) (fault : RunFault) → mid ≡ old → StopsUnwritten mid new fault → StopsUnwritten old new fault
unwritten old mid new NoMemory e h = h ∙ e
unwritten old mid new Writer e h = tt
unwritten old mid new TooManyCalls e h = h

pub stops_later : {A : Type 0} (old mid new : Option (List ℕ)) (r : Result A RunFault) → mid ≡ old → IfErr r (StopsUnwritten mid new) → IfErr r (StopsUnwritten old new)
stops_later old mid new (Ok a) e h = tt
stops_later old mid new (Err fault) e h = unwritten old mid new fault e h

-- ---- read

pub none_read : (servers : Addresses) (old : List Configuration) → AddsRead servers [] old old
none_read servers old = ([], sym (ends old), refl)
  where
    ends : (xs : List Configuration) → xs ++ [] ≡ xs
    ends [] = refl
    ends (x ∷ xs) = ap (λ l. x ∷ l) (ends xs)

one_more : (servers : Addresses) (file : FleetFile) (files : List FleetFile) (config : Configuration) (old mid new : List Configuration) → read_after servers (read (string_bytes file.text)) ≡ Ok (config.tree, config.servers) → mid ≡ old ++ config ∷ [] → AddsRead config.servers files mid new → AddsRead servers (file ∷ files) old new
one_more servers file files config old mid new said kept h =
    (config ∷ h.0, h.1 ∙ ap (λ (l : List Configuration). l ++ h.0) kept ∙ append_assoc old (config ∷ []) h.0, (said, h.2))

pub more_read : {E : Type 0} (servers : Addresses) (file : FleetFile) (files : List FleetFile) (config : Configuration) (old mid new : List Configuration) (r : Result (Unit {0}) E) → read_after servers (read (string_bytes file.text)) ≡ Ok (config.tree, config.servers) → mid ≡ old ++ config ∷ [] → IfOk r (λ u. AddsRead config.servers files mid new) → IfOk r (λ u. AddsRead servers (file ∷ files) old new)
more_read servers file files config old mid new (Ok u) said kept h = one_more servers file files config old mid new said kept h
more_read servers file files config old mid new (Err e) said kept h = tt

pub read_length : (servers : Addresses) (files : List FleetFile) (configs : List Configuration) → AreRead servers files configs → length configs ≡ length files
read_length servers [] configs h = ap length h
read_length servers (file ∷ files) [] h = absurd h
read_length servers (file ∷ files) (config ∷ configs) h = ap suc (read_length config.servers files configs h.1)

pub all_read : (files : List FleetFile) (new : List Configuration) → AddsRead [] files [] new → AreRead [] files new
all_read files new h = subst (AreRead [] files) (sym h.1) h.2
