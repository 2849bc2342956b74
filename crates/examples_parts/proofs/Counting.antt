-- An ask makes a number of what is held where it counts.
use Rattle.std.proofs.Common.{◌≡◌, ◌↔◌, ℕ, Option, Some, None, IsTrue, is_some, option_and_then, refl, ap, ◌∙◌, rules}
use Rattle.mc_types.specs.declared.ask.Ask.{Ask}
use Rattle.mc_types.specs.Items.{Item, number_made}
use Rattle.mc_types.specs.Agree.{CountsTo}

-- the count itself, and that it is this one
some_is : (o : Option ℕ) → IsTrue (is_some o) → (n : ℕ) × (o ≡ Some n)
some_is None h = absurd (search rules)
some_is (Some n) h = (n, refl)

is_it : (o : Option ℕ) (n : ℕ) → o ≡ Some n → IsTrue (is_some o)
is_it None n e = absurd (cc)
is_it (Some m) n e = search rules

pub counts_is : (ask : Ask) (held : Option Item) → IsTrue (is_some (option_and_then (λ item. number_made ask item.content) held)) ↔ (n : ℕ) × CountsTo ask held n
counts_is ask None = (λ h. absurd (search rules), λ x. absurd (let e = x.1.1 in cc))
counts_is ask (Some item) = (λ h. let s = some_is (number_made ask item.content) h in (s.0, (item, refl, s.1)), λ x. is_it (number_made ask item.content) x.0 (let e : Some item ≡ Some x.1.0 = x.1.1 in let same : item ≡ x.1.0 = cc in ap (λ (i : Item). number_made ask i.content) same ∙ x.1.2))
