-- The texts of links as links are added, and beside those of servers.
use Rattle.std.proofs.Common.{◌≡◌, ℕ, zero, suc, ◌+◌, ◌<◌, ◌≤◌, List, [], ◌∷◌, ◌++◌, Some, None, Result, Ok, Err, true, false, length, drop, refl, sym, ap, ap₂, ◌∙◌, add-one, append-nil, append_assoc, inl, inr, arith}
use Rattle.std.proofs.lemmas.Bool.{cases_eq}
use Rattle.std.specs.Prelude.{slice_get, OnOk, is_err}
use Rattle.serve_links.specs.declared.link.Link.{Link}
use Rattle.serve_links.specs.Story.{texts_of}
use Rattle.serve_proxy.specs.Bringing.{HaveOneAt, BeginWith}

texts_more : (links : List Link) (link : Link) → texts_of (links ++ link ∷ []) ≡ texts_of links ++ link.text.items ∷ []
texts_more [] link = refl
texts_more (x ∷ links) link = ap (λ l. x.text.items ∷ l) (texts_more links link)

-- a link to a text was added
pub added : (old new : List Link) (link : Link) (text : List ℕ) → new ≡ old ++ link ∷ [] → link.text.items ≡ text → texts_of new ≡ texts_of old ++ text ∷ []
added old new link text more is = ap texts_of more ∙ texts_more old link ∙ ap (λ t. texts_of old ++ t ∷ []) is

drop_at : (servers : List (List ℕ)) (i : ℕ) (text : List ℕ) → slice_get servers i ≡ Some text → drop i servers ≡ text ∷ drop (suc i) servers
drop_at [] i text is = absurd (none_some is)
  where
    none_some : None ≡ Some text → ⊥
    none_some e = cc
drop_at (x ∷ servers) zero text is = ap (λ y. y ∷ servers) (some_is is)
  where
    some_is : Some x ≡ Some text → x ≡ text
    some_is e = cc
drop_at (x ∷ servers) (suc i) text is = drop_at servers i text is

-- the next text came
pub text_added : (servers texts texts' all : List (List ℕ)) (i : ℕ) (text : List ℕ) → slice_get servers i ≡ Some text → texts' ≡ texts ++ text ∷ [] → texts ++ drop i servers ≡ all → texts' ++ drop (i + 1) servers ≡ all
text_added servers texts texts' all i text is more was =
    rw add-one (ap (λ l. l ++ drop (suc i) servers) more ∙ append_assoc texts (text ∷ []) (drop (suc i) servers) ∙ ap (λ l. texts ++ l) (sym (drop_at servers i text is)) ∙ was)

-- there is a text at each place
pub text_there : (servers : List (List ℕ)) (i : ℕ) → i < length servers → slice_get servers i ≡ None → ⊥
text_there [] i within is = omega (arith, within)
text_there (x ∷ servers) zero within is = some_none is
  where
    some_none : Some x ≡ None → ⊥
    some_none e = cc
text_there (x ∷ servers) (suc i) within is = text_there servers i (omega (arith, within)) is

none_left : (servers : List (List ℕ)) (i : ℕ) → length servers ≤ i → drop i servers ≡ []
none_left [] zero h = refl
none_left [] (suc i) h = refl
none_left (x ∷ servers) zero h = absurd (omega arith)
none_left (x ∷ servers) (suc i) h = none_left servers i (omega arith)

-- all came
pub texts_end : (servers texts all : List (List ℕ)) (i : ℕ) → length servers ≤ i → texts ++ drop i servers ≡ all → texts ≡ all
texts_end servers texts all i h was = sym (append-nil texts) ∙ ap (λ l. texts ++ l) (sym (none_left servers i h)) ∙ was

-- ---- beside the names of servers

pub same_some : {A : Type 0} {x y : A} → Some x ≡ Some y → x ≡ y
same_some e = cc

-- a link's text is the text at its place
pub text_there_of : (links : List Link) (at : ℕ) (link : Link) → slice_get links at ≡ Some link → slice_get (texts_of links) at ≡ Some link.text.items
text_there_of [] at link is = absurd (none_some is)
  where
    none_some : None ≡ Some link → ⊥
    none_some e = cc
text_there_of (x ∷ links) zero link is = ap (λ (l : Link). Some l.text.items) (same_some is)
text_there_of (x ∷ links) (suc at) link is = text_there_of links at link is

-- behind all links there is none
pub texts_beyond : (links : List Link) (at : ℕ) → length links ≤ at → slice_get (texts_of links) at ≡ None
texts_beyond [] at past = refl
texts_beyond (x ∷ links) zero past = absurd (omega (arith, past))
texts_beyond (x ∷ links) (suc at) past = texts_beyond links at (omega (arith, past))

-- before their end there is one
text_within : (links : List Link) (at : ℕ) → at < length links → (text : List ℕ) × (slice_get (texts_of links) at ≡ Some text)
text_within [] at within = absurd (omega (arith, within))
text_within (x ∷ links) zero within = (x.text.items, refl)
text_within (x ∷ links) (suc at) within = text_within links at (omega (arith, within))

-- it is that of the server of its number
pub of_server : (links : List Link) (servers : List (List ℕ)) (at : ℕ) (link : Link) → slice_get links at ≡ Some link → slice_get servers at ≡ Some link.text.items → HaveOneAt at (texts_of links) servers
of_server links servers at link there named = (link.text.items, text_there_of links at link there, named)

pub server_of : (links : List Link) (servers : List (List ℕ)) (at : ℕ) (link : Link) → slice_get links at ≡ Some link → HaveOneAt at (texts_of links) servers → slice_get servers at ≡ Some link.text.items
server_of links servers at link there have = have.2 ∙ sym have.1 ∙ text_there_of links at link there

pub have_one : (links : List Link) (servers : List (List ℕ)) (at : ℕ) → texts_of links ≡ servers → at < length links → HaveOneAt at (texts_of links) servers
have_one links servers at same within = let one = text_within links at within in (one.0, one.1, ap (λ (l : List (List ℕ)). slice_get l at) (sym same) ∙ one.1)

pub texts_as_long : (links : List Link) → length (texts_of links) ≡ length links
texts_as_long [] = refl
texts_as_long (x ∷ links) = ap (λ n. suc n) (texts_as_long links)

-- lists that are as long and have the same at each place are one
same_at_each : (xs ys : List (List ℕ)) → length xs ≡ length ys → ((i : ℕ) → i < length xs → slice_get xs i ≡ slice_get ys i) → xs ≡ ys
same_at_each [] [] long all = refl
same_at_each [] (y ∷ ys) long all = absurd (omega (arith, long))
same_at_each (x ∷ xs) [] long all = absurd (omega (arith, long))
same_at_each (x ∷ xs) (y ∷ ys) long all =
    ap₂ (λ (t : List ℕ) (ts : List (List ℕ)). t ∷ ts) (same_some (all 0 (omega arith))) (same_at_each xs ys (omega (arith, long)) (λ i within. all (suc i) (omega (arith, within))))

-- so many links are to the servers of their numbers
abbrev pub AreOf : ℕ → List Link → List (List ℕ) → Type 0
AreOf n links servers = (i : ℕ) → i < n → slice_get (texts_of links) i ≡ slice_get servers i

-- one more
pub one_more_of : (n : ℕ) (links : List Link) (servers : List (List ℕ)) → AreOf n links servers → slice_get (texts_of links) n ≡ slice_get servers n → AreOf (n + 1) links servers
one_more_of n links servers were is = λ i within. elim (cases_eq i n) [ inl e ↦ ap (slice_get (texts_of links)) e ∙ is ∙ ap (slice_get servers) (sym e) | inr other ↦ were i (omega (arith, within, other)) ]

-- all are, and there are no others
pub all_of : (n : ℕ) (links : List Link) (servers : List (List ℕ)) → AreOf n links servers → length links ≤ n → length links ≡ length servers → texts_of links ≡ servers
all_of n links servers are whole long = same_at_each (texts_of links) servers (texts_as_long links ∙ long) (λ i within. are i (let e = texts_as_long links in omega (arith, within, whole, e)))

pub as_long : (links : List Link) (servers : List (List ℕ)) → texts_of links ≡ servers → length links ≡ length servers
as_long links servers same = sym (texts_as_long links) ∙ ap length same

-- ---- links that are brought to servers

pub of_ok : {A E P : Type 0} (r : Result A E) → is_err r ≡ false → OnOk r P → P
of_ok (Ok x) fine p = p
of_ok (Err e) fine p = absurd (true_false fine)
  where
    true_false : true ≡ false → ⊥
    true_false e = cc

dropped : (links : List Link) (more : List (List ℕ)) → drop (length links) (texts_of links ++ more) ≡ more
dropped [] more = refl
dropped (x ∷ links) more = dropped links more

-- where servers begin with those that had links, all have one once the others got theirs
pub brought : (old new : List Link) (servers : List (List ℕ)) → texts_of new ≡ texts_of old ++ drop (length old) servers → BeginWith (texts_of old) servers → texts_of new ≡ servers
brought old new servers added begins = added ∙ ap (λ (l : List (List ℕ)). texts_of old ++ drop (length old) l) begins.1 ∙ ap (λ (l : List (List ℕ)). texts_of old ++ l) (dropped old begins.0) ∙ sym begins.1

pub began_with : (old new : List Link) (servers : List (List ℕ)) → texts_of new ≡ texts_of old ++ drop (length old) servers → texts_of new ≡ servers → BeginWith (texts_of old) servers
began_with old new servers added same = (drop (length old) servers, sym same ∙ added)
