use Rattle.std.proofs.Common.{◌∙◌, sym}
use Rattle.mounts.proofs.Handing.{items_none}
use Rattle.mounts.proofs.application.Application.start.Goals as goal

pub invariant_of-result : goal.invariant_of-result
invariant_of-result g c = record {
  named = ∣ c.requires.named ∣₁;
  dues_are = c.requires.dues;
  slots_are = c.requires.slots;
  calls_are = c.new.ensures ∙ sym c.requires.fresh.0;
  items_are = items_none c.new.result c.new.ensures;
  replies_are = c.new-2.ensures ∙ sym c.requires.fresh.1;
}
