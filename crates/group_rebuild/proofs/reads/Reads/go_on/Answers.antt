use Rattle.std.proofs.Common.{subst}
use Rattle.std.specs.Prelude.{All}
use Rattle.std.proofs.lemmas.List.Elements.{All-tail}
use Rattle.group_rebuild.specs.Wanted.{IsWanted}
use Rattle.group_rebuild.proofs.Queues.{next_is_read}
use Rattle.group_rebuild.proofs.reads.Reads.go_on.Goals as goal

pub invariant_of-self-in_err-add_fetches-in-Some : goal.invariant_of-self-in_err-add_fetches-in-Some
invariant_of-self-in_err-add_fetches-in-Some c = record {
  all = All-tail IsWanted c.in-Some.wanted c.pop_front.new.self.items (subst (All IsWanted) c.in-Some.ensures.items c.self.invariant.all);
  now = c.self.invariant.now;
}

pub invariant_of-self-in_err-round-in-Some : goal.invariant_of-self-in_err-round-in-Some
invariant_of-self-in_err-round-in-Some c = record {
  all = All-tail IsWanted c.in-Some.wanted c.pop_front.new.self.items (subst (All IsWanted) c.in-Some.ensures.items c.self.invariant.all);
  now = c.self.invariant.now;
}

pub invariant_of-self-in_ok-round-in-Some : goal.invariant_of-self-in_ok-round-in-Some
invariant_of-self-in_ok-round-in-Some c =
    next_is_read c.self.inside.left.items c.pop_front.new.self.items c.in-Some.wanted c.in_ok-round-in-Some.round c.in-Some.ensures.items c.self.invariant.all

pub invariant_of-self-in_ok-round-in-Some-2 : goal.invariant_of-self-in_ok-round-in-Some-2
invariant_of-self-in_ok-round-in-Some-2 c =
    next_is_read c.self.inside.left.items c.pop_front.new.self.items c.in-Some.wanted c.in_ok-round-in-Some.round c.in-Some.ensures.items c.self.invariant.all
