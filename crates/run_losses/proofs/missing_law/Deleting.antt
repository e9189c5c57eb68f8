-- At each moment of a run a server was told to delete a segment, or none was.
use Rattle.std.proofs.Common.{◌≡◌, ◌⊎◌, ⊎_elim, ℕ, Bool, true, false, List, [], ◌∷◌, refl, sym, ap, subst, ◌∙◌, inl, inr}
use Rattle.core_world.specs.declared.any_node.AnyNode.{AnyNode}
use Rattle.xfs_base.proofs.SegmentNames.{one_name, same_itself}
use Rattle.fragment_store.specs.ShelfState.{same_name}
use Rattle.token_protocol.specs.Basics.{In}
use Rattle.wire_msg.specs.declared.body.Body.{Body}
use Rattle.wire_msg.specs.declared.body.Body.TheVariants as body
use Rattle.wire_msg.specs.declared.packet.Packet.{Packet}
use Rattle.wire_msg.specs.declared.storage.Delete.{Delete}
use Rattle.world_base.specs.declared.estate.Estate.{Estate}
use Rattle.run_laws.proofs.world_law.Sent.{was_sent}
use Rattle.headline.specs.Moments.{moment}
use Rattle.headline.specs.Segments.{NotDeleted}
use Rattle.xfs_base.proofs.Booleans.{contrary}
use Rattle.xfs_base.specs.declared.segment.SegName.{SegName}
use Rattle.run_losses.proofs.missing_law.Moments.{Deleted}

-- one of a list passes a test, or none does
found_or_none : {X : Type 0} (test : X → Bool) (xs : List X) → ((x : X) × In x xs × (test x ≡ true)) ⊎ ((x : X) → In x xs → test x ≡ true → ⊥)
found_or_none {X} test [] = inr (λ x fact t. fact)
found_or_none {X} test (y ∷ ys) = by (test y) refl (found_or_none test ys)
  where
    by : (t : Bool) → test y ≡ t → ((x : X) × In x ys × (test x ≡ true)) ⊎ ((x : X) → In x ys → test x ≡ true → ⊥)
        → ((x : X) × In x (y ∷ ys) × (test x ≡ true)) ⊎ ((x : X) → In x (y ∷ ys) → test x ≡ true → ⊥)
    by true fact rest = inl (y, inl refl, fact)
    by false fact (inl (x, among, passes)) = inl (x, inr among, passes)
    by false fact (inr none) =
        inr (λ x among passes. ⊎_elim (λ same. contrary (sym fact ∙ (ap test (sym same) ∙ passes))) (λ later. none x later passes) among)

abbrev deletes : SegName → Body → Bool
deletes name (body.Delete m) = same_name m.name name
deletes name _ = false

-- a packet that says so
record SaysSo (name : SegName) (said : Body) : Type 0 where
  delete : Delete
  tells : said ≡ body.Delete delete
  named : delete.name ≡ name

says_so : (name : SegName) (said : Body) → deletes name said ≡ true → SaysSo name said
says_so name (body.Delete m) fact = record { delete = m; tells = refl; named = one_name m.name name fact }
says_so name _ fact = contrary fact

module _ (e : Estate AnyNode) (count : ℕ) (name : SegName) where
  abbrev Of : Packet → Bool
  Of p = deletes name p.body

  pub deleted_or_not : Deleted e count name ⊎ NotDeleted (moment e count) name
  deleted_or_not = by (found_or_none Of (moment e count).sent)
    where
      by : ((p : Packet) × In p (moment e count).sent × (deletes name p.body ≡ true))
          ⊎ ((p : Packet) → In p (moment e count).sent → deletes name p.body ≡ true → ⊥)
          → Deleted e count name ⊎ NotDeleted (moment e count) name
      by (inl (p, among, fact)) =
          let s = says_so name p.body fact in inl (record { packet = p; among = among; delete = s.delete; tells = s.tells; named = s.named })
      by (inr none) =
          inr (λ packet m sent tells named.
          none packet (was_sent (moment e count).sent packet sent)
          (subst (λ b. deletes name b ≡ true) (sym tells) (subst (λ n. same_name m.name n ≡ true) named (same_itself m.name))))
