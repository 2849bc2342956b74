-- The words of a family's numbers and kind. Source: Prometheus' text format; RFC 8259, section 6, reads the numbers alike.
use Rattle.std.specs.Prelude.{ℕ, ◌/◌, ◌%◌, List, ◌++◌, codes, decimal}
use Rattle.watch_admin.specs.declared.families.Amount.{Amount}
use Rattle.watch_admin.specs.declared.families.Amount.TheVariants.{Count, Millis, Micros}
use Rattle.watch_admin.specs.declared.families.MetricKind.{MetricKind}
use Rattle.watch_admin.specs.declared.families.MetricKind.TheVariants.{Counter, Gauge, Histogram}

-- the last three digits
abbrev pub three_digits : ℕ → List ℕ
three_digits n = decimal (n / 100 % 10) ++ decimal (n / 10 % 10) ++ decimal (n % 10)

-- the digits of a count, or those of a time in seconds: of milliseconds to the third place after the point, of microseconds to the sixth
abbrev pub amount_text : Amount → List ℕ
amount_text (Count count) = decimal count
amount_text (Millis millis) = decimal (millis / 1000) ++ codes "." ++ three_digits millis
amount_text (Micros micros) = decimal (micros / 1000000) ++ codes "." ++ three_digits (micros / 1000) ++ three_digits micros

abbrev pub kind_text : MetricKind → List ℕ
kind_text Counter = codes "counter"
kind_text Gauge = codes "gauge"
kind_text Histogram = codes "histogram"
