-- What the bytes of a client ask for. Source: mcgate's own, over the grammar of RFC 9112.
use Rattle.std.specs.Prelude.{◌≡◌, ◌≢◌, ℕ, ◌<◌, ◌≤◌, ◌⊎◌, List, length, codes}
use Rattle.httparse.specs.Grammar.{RequestHead, ReadsRequest, HasNoRequest, NeverHasRequest}
use Rattle.httparse.specs.Spans.{RequestExceeds}
use Rattle.watch_admin.specs.declared.http.request.Page.{Page}
use Rattle.watch_admin.specs.declared.http.request.Page.TheVariants.{Home, Config, Metrics, Stats}
use Rattle.watch_admin.specs.declared.http.request.Refusal.TheVariants.{Bad, NotFound, NotAllowed, TooLarge}
use Rattle.watch_admin.specs.declared.http.request.AskedPage.{AskedPage}
use Rattle.watch_admin.specs.declared.http.request.AskedPage.TheVariants.{Unfinished, For, Refused}

-- the path of a page
abbrev pub path_of : Page → List ℕ
path_of Home = codes "/"
path_of Config = codes "/config.json"
path_of Metrics = codes "/metrics"
path_of Stats = codes "/stats.json"

-- a request of this method and path asks for this
abbrev pub AsksBy : List ℕ → List ℕ → AskedPage → Type 0
AsksBy method path Unfinished = ⊥
AsksBy method path (For page) = (method ≡ codes "GET") × (path ≡ path_of page)
AsksBy method path (Refused Bad) = ⊥
AsksBy method path (Refused NotFound) = (method ≡ codes "GET") × ((page : Page) → path ≢ path_of page)
AsksBy method path (Refused NotAllowed) = method ≢ codes "GET"
AsksBy method path (Refused TooLarge) = ⊥

-- the bytes begin with a request that asks for this
abbrev pub BeginAsking : List ℕ → AskedPage → Type 0
BeginAsking bytes asked = (head : RequestHead) × (rest : List ℕ) × ReadsRequest bytes head rest × AsksBy head.method head.target asked

-- the bytes ask for this: with less than 8 KiB of a head that isn't whole for nothing yet; a head with more than 64 fields is too large
abbrev pub AsksPage : List ℕ → AskedPage → Type 0
AsksPage bytes Unfinished = HasNoRequest bytes × (length bytes < 8192)
AsksPage bytes (For page) = BeginAsking bytes (For page)
AsksPage bytes (Refused Bad) = NeverHasRequest bytes
AsksPage bytes (Refused NotFound) = BeginAsking bytes (Refused NotFound)
AsksPage bytes (Refused NotAllowed) = BeginAsking bytes (Refused NotAllowed)
AsksPage bytes (Refused TooLarge) = RequestExceeds 64 bytes ⊎ (HasNoRequest bytes × (8192 ≤ length bytes))
