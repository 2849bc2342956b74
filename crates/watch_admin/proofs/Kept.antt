-- What a client has sent, and what answers it.
use Rattle.std.proofs.Common.{◌≡◌, ◌∙◌, List, ℕ, [], ◌++◌, ap, sym, subst, arith, inl, inr}
use Rattle.std.proofs.Math.Logic.{∥∥₁_map}
use Rattle.watch_admin.specs.declared.http.request.Page.{Page}
use Rattle.watch_admin.specs.declared.http.request.Refusal.{Refusal}
use Rattle.watch_admin.specs.declared.http.request.AskedPage.TheVariants.{Unfinished, For, Refused}
use Rattle.watch_admin.specs.HttpRequests.{AsksPage}
use Rattle.watch_admin.specs.HttpReplies.{page_text, http_refusal_text, AnswersVisitor}
use Rattle.watch_admin.proofs.Empty.{empty_has_none}

-- who has sent nothing has sent no whole request
pub none_came : (came : List ℕ) → came ≡ [] → ∥ AsksPage came Unfinished ∥₁
none_came came none = subst (λ bytes. ∥ AsksPage bytes Unfinished ∥₁) (sym none) ∣ (empty_has_none, omega arith) ∣₁

-- a page answers who asked for it
pub page_answers : (came before answer body : List ℕ) (page : Page) → ∥ AsksPage came (For page) ∥₁
    → before ≡ [] → answer ≡ before ++ page_text page body → ∥ AnswersVisitor came answer ∥₁
page_answers came before answer body page asks none written =
    ∥∥₁_map asks (λ asked. inl (page, body, asked, written ∙ ap (λ bytes. bytes ++ page_text page body) none))

-- and a refusal who asked for none
pub refusal_answers : (came before answer : List ℕ) (refusal : Refusal) → AsksPage came (Refused refusal)
    → before ≡ [] → answer ≡ before ++ http_refusal_text refusal → ∥ AnswersVisitor came answer ∥₁
refusal_answers came before answer refusal asked none written =
    ∣ inr (refusal, asked, written ∙ ap (λ bytes. bytes ++ http_refusal_text refusal) none) ∣₁
