-- What the events of a script put on servers before its run. Source: mcgate's own.
use Rattle.std.specs.Prelude.{List, [], ◌∷◌}
use Rattle.cache_server.specs.Contents.{Contents, storing_item, opening}
use Rattle.script_events.specs.Caches.{changed_at}
use Rattle.script_events.specs.declared.script.Event.{Event}
use Rattle.script_events.specs.Scripted.{Scripted, Piece, Add, Result, Fail, Hold, At, Now, Moment, scripted_of}

-- what an event puts on the servers' caches
abbrev pub put_on : Scripted → List Contents → List Contents
put_on (Hold server key content) caches = changed_at server (λ c. storing_item c key (opening content)) caches
put_on (Piece client bytes) caches = caches
put_on (Add client bytes) caches = caches
put_on (Result server) caches = caches
put_on (Fail turn manner) caches = caches
put_on (At turn loss) caches = caches
put_on (Now loss) caches = caches
put_on (Moment moment) caches = caches

-- what events put on the servers' caches, in order
abbrev pub put_all_on : List Event → List Contents → List Contents
put_all_on [] caches = caches
put_all_on (event ∷ events) caches = put_all_on events (put_on (scripted_of event) caches)
