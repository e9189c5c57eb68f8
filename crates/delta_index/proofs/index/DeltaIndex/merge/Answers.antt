use Rattle.std.proofs.Common.{◌≡◌, true, ◌∙◌, ap, sym, arith}
use Rattle.delta_index.specs.Entries.{is_newer}
use Rattle.delta_index.specs.Index.{entry_of}
use Rattle.delta_index.proofs.HeldRows.{AllHeld-insert}
use Rattle.delta_index.proofs.index.DeltaIndex.merge.Goals as goal

pub invariant_of-self-2 : goal.invariant_of-self-2
invariant_of-self-2 c =
    let passed : c.is_newer_entry.result ≡ true = grind arith in
    let newer : is_newer c.args.entry (entry_of c.self.inside.entries.entries c.args.block) ≡ true =
    ap (is_newer c.args.entry) (ap (λ r. entry_of r c.args.block) c.self.view_is ∙ sym c.get.ensures) ∙ sym c.is_newer_entry.ensures ∙ passed
    in
    rw c.in_ok-insert.ensures.entries (AllHeld-insert c.self.inside.entries.entries c.args.block c.args.entry c.self.invariant newer)
