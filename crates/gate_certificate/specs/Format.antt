-- The format of certificates: which rows a JSON text means. Source: mcgate's own.
use Rattle.gate_certificate.specs.declared.fields.TheConstants.{MAX_NUMBER}
use Rattle.std.specs.Prelude.{◌≡◌, ℕ, ◌==◌, List, [], ◌∷◌, codes, map, nat_le, Option, Some, None, Result, Ok, Err, option_map, option_and_then, if◌then◌else◌}
use Rattle.serde_json.specs.Data.{Data, Items, no_items, item}
use Rattle.serde_json.specs.Find.{get, as_array, as_number, as_u64}
use Rattle.serde_json.specs.Read.{read}
use Rattle.gate_check.specs.declared.places.table.Run.{Run}
use Rattle.gate_check.specs.declared.places.table.ClassRows.{ClassRows}
use Rattle.gate_check.specs.declared.places.table.Certificate.{Certificate}
use Rattle.gate_certificate.specs.declared.fault.CertificateFault.{CertificateFault}
use Rattle.gate_certificate.specs.declared.fault.CertificateFault.TheVariants as faults

-- ---- what a certificate says

-- a run: its first residue, and its servers
abbrev pub run_row : Run → ℕ × List ℕ
run_row run = (run.first, run.servers.items)

-- a class: its modulus, and its runs
abbrev pub class_row : ClassRows → ℕ × List (ℕ × List ℕ)
class_row rows = (rows.modulus, map run_row rows.runs.items)

abbrev pub Rows : Type 0
Rows = List (ℕ × List (ℕ × List ℕ))

abbrev pub rows_of : Certificate → Rows
rows_of certificate = map class_row certificate.classes.items

-- ---- what a text says

-- a number of 32 bits
abbrev pub small : ℕ → Option ℕ
small n = if nat_le n MAX_NUMBER then Some n else None

abbrev pub data_number : Data → Option ℕ
data_number d = option_and_then small (option_and_then as_u64 (as_number d))

-- what each of a list says, if each says something
abbrev pub each_in : {A : Type 0} → (Data → Option A) → Items → Option (List A)
each_in f no_items = Some []
each_in f (item d ds) = option_and_then (λ x. option_map (λ xs. x ∷ xs) (each_in f ds)) (f d)

-- in a field
abbrev pub number_at : List ℕ → Data → Option ℕ
number_at name d = option_and_then data_number (get name d)

abbrev pub list_at : {A : Type 0} → List ℕ → (Data → Option A) → Data → Option (List A)
list_at name f d = option_and_then (each_in f) (option_and_then as_array (get name d))

-- two together, if there are both
abbrev pub both : {A B : Type 0} → Option A → Option B → Option (A × B)
both None b = None
both (Some a) b = option_map (λ x. (a, x)) b

-- an object with `first` and `servers`; other fields say nothing
abbrev pub run_in : Data → Option (ℕ × List ℕ)
run_in d = both (number_at (codes "first") d) (list_at (codes "servers") data_number d)

-- an object with `modulus` and `runs`
abbrev pub class_in : Data → Option (ℕ × List (ℕ × List ℕ))
class_in d = both (number_at (codes "modulus") d) (list_at (codes "runs") run_in d)

-- the version of the format that this is
abbrev pub if_version : {A : Type 0} → Option ℕ → Option A → Option A
if_version None a = None
if_version (Some n) a = if n == 1 then a else None

-- an object with `certificate`, which is 1, and `classes`
abbrev pub rows_in : Data → Option Rows
rows_in d = if_version (number_at (codes "certificate") d) (list_at (codes "classes") class_in d)

-- the rows that a text means, if it means some
abbrev pub rows_of_text : List ℕ → Option Rows
rows_of_text text = option_and_then rows_in (read text)

-- ---- what an answer says of a text

-- there is nothing to read, unless memory was refused
abbrev pub IsNothing : {Y : Type 0} → CertificateFault → Option Y → Type 0
IsNothing faults.NoMemory found = Unit {0}
IsNothing (faults.NotJson line column) found = found ≡ None
IsNothing faults.BadWhole found = found ≡ None
IsNothing (faults.BadClass class) found = found ≡ None
IsNothing (faults.BadRun class run) found = found ≡ None

-- what is answered, seen by `view`, is what is found, running out of memory aside
abbrev pub ReadsCertificate : {X Y : Type 0} → (X → Y) → Result X CertificateFault → Option Y → Type 0
ReadsCertificate view (Ok x) found = found ≡ Some (view x)
ReadsCertificate view (Err e) found = IsNothing e found
