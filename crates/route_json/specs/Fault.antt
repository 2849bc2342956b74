-- The faults of a configuration with the bytes of their names, and what an answer says of a reading.
use Rattle.std.specs.Prelude.{◌≡◌, ℕ, List, Option, Some, None, Result, Ok, Err, string_bytes}
use Rattle.route_json.specs.declared.fault.ConfigFault.{ConfigFault}
use Rattle.route_json.specs.declared.fault.ConfigFault.TheVariants as faults

-- what is wrong with a configuration, and where
pub data Fault : Type 0 where
  NotJson : Fault
  BadField : (name : List ℕ) → Fault
  BadAddress : (text : List ℕ) → Fault
  EmptyPool : (name : List ℕ) → Fault
  TooManyServers : (name : List ℕ) → Fault
  TooManySlots : (name : List ℕ) → Fault
  TooDeep : Fault
  TooManyNodes : Fault
  UnknownType : (name : List ℕ) → Fault
  NoPool : (name : List ℕ) → Fault
  EmptyChildren : Fault
  BadPrefix : (text : List ℕ) → Fault

-- the fault that is answered, or none where memory ran out
abbrev pub fault_of : ConfigFault → Option Fault
fault_of faults.NotJson = Some NotJson
fault_of (faults.BadField s) = Some (BadField (string_bytes s))
fault_of (faults.BadAddress s) = Some (BadAddress (string_bytes s))
fault_of (faults.EmptyPool s) = Some (EmptyPool (string_bytes s))
fault_of (faults.TooManyServers s) = Some (TooManyServers (string_bytes s))
fault_of (faults.TooManySlots s) = Some (TooManySlots (string_bytes s))
fault_of faults.TooDeep = Some TooDeep
fault_of faults.TooManyNodes = Some TooManyNodes
fault_of (faults.UnknownType s) = Some (UnknownType (string_bytes s))
fault_of (faults.NoPool s) = Some (NoPool (string_bytes s))
fault_of faults.EmptyChildren = Some EmptyChildren
fault_of (faults.BadPrefix s) = Some (BadPrefix (string_bytes s))
fault_of faults.NoMemory = None

-- reading gives this fault; where memory ran out nothing is said
abbrev pub Fails : {Y : Type 0} → Option Fault → Result Y Fault → Type 0
Fails None read = Unit {0}
Fails (Some f) read = read ≡ Err f

-- what is answered, seen by `view`, is what reading gives, running out of memory aside
abbrev pub GivesReading : {X Y : Type 0} → (X → Y) → Result X ConfigFault → Result Y Fault → Type 0
GivesReading view (Ok x) read = read ≡ Ok (view x)
GivesReading view (Err e) read = Fails (fault_of e) read
