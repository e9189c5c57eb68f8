use Rattle.std.proofs.Common.{◌≡◌, subst}
use Rattle.slot_beliefs.specs.Index.{Indexed, block_index_clean}
use Rattle.slot_beliefs.proofs.Counting.{shown, counted_clean, cleaned_indexed}
use Rattle.slot_beliefs.proofs.index.BlockIndex.clean.Goals as goal

pub invariant_of-self : goal.invariant_of-self
invariant_of-self c = counted_clean (shown c.self.inside.pages c.self.inside.usage) c.clean.new.self c.clean.ensures c.self.invariant

pub returns : goal.returns
returns c =
    let was : Indexed = shown c.self.inside.pages c.self.inside.usage in
    subst (λ (i : Indexed). shown c.clean.new.self was.usage ≡ block_index_clean i) c.self.view_is (cleaned_indexed was c.clean.new.self c.clean.ensures)
