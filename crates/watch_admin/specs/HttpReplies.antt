-- The bytes of answers. Source: RFC 9110, sections 8, 10.2.1 and 15, and RFC 9112, section 4; HTML's and Prometheus' media types.
use Rattle.std.specs.Prelude.{◌≡◌, ℕ, ◌⊎◌, List, [], ◌++◌, length, codes, decimal}
use Rattle.watch_admin.specs.declared.http.request.Page.{Page}
use Rattle.watch_admin.specs.declared.http.request.Page.TheVariants.{Home, Config, Metrics, Stats}
use Rattle.watch_admin.specs.declared.http.request.Refusal.{Refusal}
use Rattle.watch_admin.specs.declared.http.request.Refusal.TheVariants.{Bad, NotFound, NotAllowed, TooLarge}
use Rattle.watch_admin.specs.declared.http.request.AskedPage.TheVariants.{For, Refused}
use Rattle.watch_admin.specs.HttpRequests.{AsksPage}

abbrev pub page_kind : Page → List ℕ
page_kind Home = codes "text/html; charset=utf-8"
page_kind Config = codes "application/json"
page_kind Metrics = codes "text/plain; version=0.0.4; charset=utf-8"
page_kind Stats = codes "application/json"

abbrev pub refusal_words : Refusal → List ℕ
refusal_words Bad = codes "400 Bad Request"
refusal_words NotFound = codes "404 Not Found"
refusal_words NotAllowed = codes "405 Method Not Allowed"
refusal_words TooLarge = codes "431 Request Header Fields Too Large"

-- only a refused method has a field of its own: which one is allowed
abbrev pub field_of : Refusal → List ℕ
field_of Bad = []
field_of NotFound = []
field_of NotAllowed = codes "Allow: GET\r\n"
field_of TooLarge = []

unfoldable pub status_line : List ℕ → List ℕ
status_line words = codes "HTTP/1.1 " ++ words ++ codes "\r\n"

unfoldable pub kind_line : List ℕ → List ℕ
kind_line kind = codes "Content-Type: " ++ kind ++ codes "\r\n"

unfoldable pub length_line : ℕ → List ℕ
length_line count = codes "Content-Length: " ++ decimal count ++ codes "\r\n"

-- the connection is closed after the answer; and the end of the head
unfoldable pub close_lines : List ℕ
close_lines = codes "Connection: close\r\n\r\n"

unfoldable pub front_text : List ℕ → List ℕ → List ℕ → List ℕ
front_text words fields kind = status_line words ++ fields ++ kind_line kind

unfoldable pub body_text : List ℕ → List ℕ
body_text body = length_line (length body) ++ close_lines ++ body

-- an answer of this status, with its fields, and a body of this kind
unfoldable pub answer_text : List ℕ → List ℕ → List ℕ → List ℕ → List ℕ
answer_text words fields kind body = front_text words fields kind ++ body_text body

abbrev pub page_text : Page → List ℕ → List ℕ
page_text page body = answer_text (codes "200 OK") [] (page_kind page) body

-- the body is the status
abbrev pub http_refusal_text : Refusal → List ℕ
http_refusal_text refusal = answer_text (refusal_words refusal) (field_of refusal) (codes "text/plain") (refusal_words refusal)

abbrev pub PageAnswers : List ℕ → List ℕ → Type 0
PageAnswers came answer = (page : Page) × (body : List ℕ) × AsksPage came (For page) × (answer ≡ page_text page body)

abbrev pub RefusalAnswers : List ℕ → List ℕ → Type 0
RefusalAnswers came answer = (refusal : Refusal) × AsksPage came (Refused refusal) × (answer ≡ http_refusal_text refusal)

-- to these bytes of a client this answers: the page that they ask for, with some body, or why there is none
abbrev pub AnswersVisitor : List ℕ → List ℕ → Type 0
AnswersVisitor came answer = PageAnswers came answer ⊎ RefusalAnswers came answer
