-- A classic get of a key is an ask that a client can write.
use Rattle.std.proofs.Common.{◌≡◌, ℕ, List, [], false, None, refl, sym, subst, arith}
use Rattle.mc_types.specs.KeyText.{IsKey}
use Rattle.mc_types.specs.Asks.{IsAsk}
use Rattle.mc_types.specs.declared.ask.Op.TheVariants.{Get}
use Rattle.mc_types.specs.declared.ask.Dialect.TheVariants.{Classic}
use Rattle.mc_types.specs.declared.ask.Ask.{Ask}

pub get_is_ask : (key : List ℕ) (ask : Ask) → ask ≡ record { key = key; op = Get; dialect = Classic; with_cas = false; flags = 0; exptime = None; body = []; cas = None; delta = 0; tokens = [] } → IsKey key → IsAsk ask
get_is_ask key ask is key_is =
    subst IsAsk (sym is)
    (record {
      key = key_is;
      ranges = record { flags = omega arith; exptime = tt; body = omega arith; cas = tt; delta = omega arith };
      shape = record { with_cas = tt; flags = refl; exptime = refl; body = refl; cas = refl; delta = refl; tokens = refl };
    })
