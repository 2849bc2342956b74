-- Families as a JSON object: under a family's name its only number, or an array of objects, each with the labels of a number and the
-- number under "value". Source: mcgate's own, in RFC 8259's grammar.
use Rattle.std.specs.Prelude.{ℕ, List, [], ◌∷◌, ◌++◌, codes, flat_map, string_bytes}
use Rattle.watch_admin.specs.declared.families.Label.{Label}
use Rattle.watch_admin.specs.declared.families.Sample.{Sample}
use Rattle.watch_admin.specs.declared.families.Samples.{Samples}
use Rattle.watch_admin.specs.declared.families.Spread.{Spread}
use Rattle.watch_admin.specs.declared.families.Samples.TheVariants.{One, Each, Times}
use Rattle.watch_admin.specs.declared.families.Family.{Family}
use Rattle.watch_admin.specs.Families.{amount_text}
use Rattle.watch_admin.specs.Quoted.{json_quoted}

-- "NAME":"VALUE",
abbrev pub label_json : Label → List ℕ
label_json label = json_quoted label.name.now ++ codes ":" ++ json_quoted (string_bytes label.value) ++ codes ","

abbrev pub labels_json : List Label → List ℕ
labels_json labels = flat_map label_json labels

-- {LABELS"value":AMOUNT}
abbrev pub sample_json : Sample → List ℕ
sample_json sample = codes "{" ++ labels_json sample.labels.items ++ codes "\"value\":" ++ amount_text sample.amount ++ codes "}"

abbrev pub next_sample_json : Sample → List ℕ
next_sample_json sample = codes "," ++ sample_json sample

abbrev pub each_json : List Sample → List ℕ
each_json [] = []
each_json (sample ∷ samples) = sample_json sample ++ flat_map next_sample_json samples

abbrev pub array_json : List Sample → List ℕ
array_json samples = codes "[" ++ each_json samples ++ codes "]"

unfoldable pub buckets_json : Spread → List ℕ
buckets_json spread = codes "{\"le\":" ++ array_json spread.buckets.items

unfoldable pub sums_json : Spread → List ℕ
sums_json spread = codes ",\"sum\":" ++ array_json spread.sums.items

unfoldable pub counts_json : Spread → List ℕ
counts_json spread = codes ",\"n\":" ++ array_json spread.counts.items ++ codes "}"

-- {"le":[..],"sum":[..],"n":[..]}
abbrev pub spread_json : Spread → List ℕ
spread_json spread = buckets_json spread ++ sums_json spread ++ counts_json spread

abbrev pub samples_json : Samples → List ℕ
samples_json (One amount) = amount_text amount
samples_json (Each samples) = array_json samples.items
samples_json (Times spread) = spread_json spread

-- "NAME":NUMBERS
abbrev pub family_json : Family → List ℕ
family_json family = json_quoted family.name.now ++ codes ":" ++ samples_json family.samples

abbrev pub next_family_json : Family → List ℕ
next_family_json family = codes ",\n" ++ family_json family

abbrev pub families_json : List Family → List ℕ
families_json [] = []
families_json (family ∷ families) = family_json family ++ flat_map next_family_json families

abbrev pub object_json : List Family → List ℕ
object_json families = codes "{" ++ families_json families ++ codes "}\n"
