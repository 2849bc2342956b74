-- Answers and readings.
use Rattle.std.proofs.Common.{◌≡◌, Option, Some, None, Result, Ok, Err, IfSome, ap, subst}
use Rattle.route_json.specs.declared.fault.ConfigFault.{ConfigFault}
use Rattle.route_json.specs.Fault.{Fault, fault_of, Fails, GivesReading}
use Rattle.route_json.specs.Reading.{result_of}

-- the answer gives the same reading, however it is written
pub gives_too : {X Y : Type 0} (view : X → Y) (r : Result X ConfigFault) (a b : Result Y Fault) → a ≡ b → GivesReading view r a → GivesReading view r b
gives_too view r a b e h = subst (λ q. GivesReading view r q) e h

-- what a fault of a part is for the whole
pub passed : {A B : Type 0} (o : Option Fault) (read : Result A Fault) (whole : Result B Fault) → Fails o read → ((f : Fault) → read ≡ Err f → whole ≡ Err f) → Fails o whole
passed None read whole h go = tt
passed (Some f) read whole h go = go f h

-- what is known after a reading is left out
pub gives_result : {X A S : Type 0} (view : X → A) (s : S) (r : Result X ConfigFault) (q : Result (A × S) Fault) → GivesReading (λ x. (view x, s)) r q → GivesReading view r (result_of q)
gives_result view s (Ok x) q h = ap result_of h
gives_result view s (Err e) q h = passed (fault_of e) q (result_of q) h (λ f k. ap result_of k)

-- a fact of what there is, if there is something
pub if_some_weaker : {X : Type 0} (o : Option X) (P Q : X → Type 0) → ((x : X) → P x → Q x) → IfSome o P → IfSome o Q
if_some_weaker None P Q go h = tt
if_some_weaker (Some x) P Q go h = go x h
