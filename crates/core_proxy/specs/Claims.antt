-- What commands claim of their keys, and what stands in the way of that. Source: mcgate's own.
pub use Rattle.core_commands.specs.Claims.{is_delete, clears_by, copies_by, claim_by, bars_by, clears_key, copies_key, is_barred}
