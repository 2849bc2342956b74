-- What is printed of a configuration where the verdict is explained. Source: mcgate's own.
use Rattle.std.specs.Prelude.{◌≡◌, ℕ, List, [], ◌++◌, codes, decimal, Option, Some, None}
use Rattle.std.specs.Io.KnownBytes.{Appends}
use Rattle.serde_json.specs.Read.{read}
use Rattle.route_tree.specs.Place.{tree_at_place, prefix_text}
use Rattle.route_tree.specs.Route.{Route}
use Rattle.route_json.specs.Configuration.{Configuration}
use Rattle.route_json.specs.Servers.{Addresses}
use Rattle.gate_check.specs.declared.gap.Gap.{Gap}
use Rattle.gate_check.specs.declared.gap.Reason.{Reason}
use Rattle.gate_check.specs.declared.gap.Reason.TheVariants as reasons
use Rattle.script_events.specs.declared.script.Script.{Script}
use Rattle.gate_gaps.specs.declared.explanation.Explanation.{Explanation}
use Rattle.gate_gaps.specs.Explanations as gaps
use Rattle.gate_gaps.specs.Lines.{explanation_lines}
use Rattle.gate_gaps.specs.Pools.{NamedPools, named_pools_in}
use Rattle.gate_gaps.specs.PoolWords.{server_text}
use Rattle.gate_gaps.specs.Sites.{change_lines}
use Rattle.mcgate_check.specs.Checking.{PrintsAccepted, ChecksFound, IsFoundFor}
use Rattle.mcgate_check.specs.declared.explaining.ToldFault.{ToldFault}
use Rattle.mcgate_check.specs.declared.explaining.Words.{Words}
use Rattle.mcgate_check.specs.declared.explaining.Words.TheVariants as words

-- what helps where a tree has too many places
unfoldable pub places_words : List ℕ
places_words = codes "# to change: pools whose sizes share divisors, such as 1,024 and 1,024 in place of 1,023 and 1,024"

-- what an accepted tree is
unfoldable pub fresh_words : List ℕ
fresh_words = codes "# no reply shows what was stored before an acknowledged delete of its key, whatever fails"

abbrev pub accepted_words : List ℕ
accepted_words = fresh_words ++ codes "\n"

abbrev pub number_front : ℕ → List ℕ
number_front server = codes "# in the script, server " ++ decimal server ++ codes " is "

-- which server the number is that the script of a gap of this server names
abbrev pub number_line : Addresses → NamedPools → ℕ → List ℕ
number_line servers pools server = number_front server ++ server_text servers pools server ++ codes "\n"

-- which server the number is that the script of a gap of this server names, if there is a script
abbrev pub script_words : Addresses → NamedPools → ℕ → Option Script → List ℕ
script_words servers pools server None = []
script_words servers pools server (Some script) = number_line servers pools server

-- the lines of a gap: which server the script's number is, why it is a gap, and what to change
abbrev pub gap_words : Addresses → Route → NamedPools → Option Script → Gap → Explanation → List ℕ
gap_words servers tree pools found gap e =
    script_words servers pools gap.server found ++ explanation_lines servers pools gap.op gap.server gap.deleting e
    ++ change_lines servers pools gap.server (prefix_text gap.place.prefix) tree

-- the lines of words
abbrev pub words_text : Addresses → Route → NamedPools → Option Script → Words → List ℕ
words_text servers tree pools found (words.OfGap gap e) = gap_words servers tree pools found gap e
words_text servers tree pools found words.OfPlaces = places_words ++ codes "\n"
words_text servers tree pools found words.None = []

-- these lines say why: for a gap what they tell is so
abbrev pub IsInWords : Configuration → NamedPools → Option Script → Reason → List ℕ → Type 0
IsInWords config pools found (reasons.Uncovered gap) lines =
    (e : Explanation) × gaps.Explains (tree_at_place config.tree gap.place) gap.op gap.server gap.deleting e
    × (lines ≡ gap_words config.servers config.tree pools found gap e)
IsInWords config pools found reasons.TooManyPlaces lines = lines ≡ places_words ++ codes "\n"
IsInWords config pools found (reasons.BadCertificate row) lines = lines ≡ []
IsInWords config pools found reasons.NoMemory lines = lines ≡ []

-- the words say why, whatever pools and whatever script they name
abbrev pub AreWordsFor : Configuration → Reason → Words → Type 0
AreWordsFor config reason w = (pools : NamedPools) (found : Option Script) → IsInWords config pools found reason (words_text config.servers config.tree pools found w)

-- what is told of a configuration that this text means, refused for this reason
pub record ExplainsFault (text : List ℕ) (config : Configuration) (reason : Reason) (told : ToldFault) : Type 0 where
  pub pools : told.pools.items ≡ named_pools_in config.servers (read text)
  pub found : IsFoundFor config reason told.run
  pub words : AreWordsFor config reason told.words

-- what is printed of a refused tree, and then why, with the pools that its text names
pub record ExplainsRefused (text : List ℕ) (config : Configuration) (reason : Reason) (old new : Option (List ℕ)) : Type 0 where
  pub between : Option (List ℕ)
  pub found : Option Script
  pub checks : ChecksFound config reason found old between
  pub lines : List ℕ
  pub in_words : IsInWords config (named_pools_in config.servers (read text)) found reason lines
  pub printed : Appends between new lines

-- what is printed of an accepted tree, and then what that is
pub record ExplainsAccepted (tree : Route) (old new : Option (List ℕ)) : Type 0 where
  pub between : Option (List ℕ)
  pub accepts : PrintsAccepted tree old between
  pub printed : Appends between new accepted_words
