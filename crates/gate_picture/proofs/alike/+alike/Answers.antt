use Rattle.gate_picture.proofs.Empty.{none_like_some, default_like_policy}
use Rattle.gate_picture.proofs.alike.+alike.Goals as goal

pub all_are_alike-returns-in-len1-up-others : goal.all_are_alike-returns-in-len1-up-others
all_are_alike-returns-in-len1-up-others t c = none_like_some c.args.children.now c.args.others.now c.in-empty.len_below c.in-len1-up-others.len_at_least

pub policies_are_alike-returns-in-len1-up-other_policies : goal.policies_are_alike-returns-in-len1-up-other_policies
policies_are_alike-returns-in-len1-up-other_policies t c =
    default_like_policy c.args.policies.now c.args.other_policies.now c.args.default.now c.args.other_default.now c.in-empty.len_below c.in-len1-up-other_policies.len_at_least
