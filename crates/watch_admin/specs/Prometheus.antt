-- Families in Prometheus' text format, version 0.0.4. Source: that format.
use Rattle.std.specs.Prelude.{ℕ, List, [], ◌∷◌, ◌++◌, ◌==◌, if◌then◌else◌, length, codes, flat_map, string_bytes}
use Rattle.watch_admin.specs.declared.families.Amount.{Amount}
use Rattle.watch_admin.specs.declared.families.Label.{Label}
use Rattle.watch_admin.specs.declared.families.Sample.{Sample}
use Rattle.watch_admin.specs.declared.families.Samples.{Samples}
use Rattle.watch_admin.specs.declared.families.Spread.{Spread}
use Rattle.watch_admin.specs.declared.families.Samples.TheVariants.{One, Each, Times}
use Rattle.watch_admin.specs.declared.families.Family.{Family}
use Rattle.watch_admin.specs.Families.{amount_text, kind_text}
use Rattle.watch_admin.specs.Quoted.{quoted_bytes, json_quoted}

-- NAME="VALUE
abbrev pub label_front : Label → List ℕ
label_front label = label.name.now ++ codes "=\"" ++ quoted_bytes (string_bytes label.value)

-- NAME="VALUE"
abbrev pub label_text : Label → List ℕ
label_text label = label.name.now ++ codes "=" ++ json_quoted (string_bytes label.value)

abbrev pub next_label_text : Label → List ℕ
next_label_text label = codes "," ++ label_text label

-- labels with a comma between two
abbrev pub labels_text : List Label → List ℕ
labels_text [] = []
labels_text (label ∷ labels) = label_text label ++ flat_map next_label_text labels

-- {LABELS}, or nothing where there are none
abbrev pub braced_text : List Label → List ℕ
braced_text labels = if length labels == 0 then [] else codes "{" ++ labels_text labels ++ codes "}"

abbrev pub amount_end : Amount → List ℕ
amount_end amount = codes " " ++ amount_text amount ++ codes "\n"

-- NAMEPART{LABELS} AMOUNT, or NAMEPART AMOUNT
abbrev pub sample_text : List ℕ → List ℕ → Sample → List ℕ
sample_text name part sample = name ++ part ++ braced_text sample.labels.items ++ amount_end sample.amount

abbrev pub each_text : List ℕ → List ℕ → List Sample → List ℕ
each_text name part samples = flat_map (sample_text name part) samples

-- NAME AMOUNT
abbrev pub amount_line : List ℕ → Amount → List ℕ
amount_line name amount = name ++ codes " " ++ amount_text amount ++ codes "\n"

abbrev pub spread_text : List ℕ → Spread → List ℕ
spread_text name spread =
    each_text name (codes "_bucket") spread.buckets.items ++ each_text name (codes "_sum") spread.sums.items ++ each_text name (codes "_count") spread.counts.items

abbrev pub samples_text : List ℕ → Samples → List ℕ
samples_text name (One amount) = amount_line name amount
samples_text name (Each samples) = each_text name [] samples.items
samples_text name (Times spread) = spread_text name spread

-- # HELP NAME HELP
abbrev pub help_text : Family → List ℕ
help_text family = codes "# HELP " ++ family.name.now ++ codes " " ++ family.help.now ++ codes "\n"

-- # TYPE NAME KIND
abbrev pub type_text : Family → List ℕ
type_text family = codes "# TYPE " ++ family.name.now ++ codes " " ++ kind_text family.kind ++ codes "\n"

abbrev pub family_text : Family → List ℕ
family_text family = help_text family ++ type_text family ++ samples_text family.name.now family.samples

abbrev pub families_text : List Family → List ℕ
families_text families = flat_map family_text families
