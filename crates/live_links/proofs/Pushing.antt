-- Letters are pushed, each on the ring to its node.
use Rattle.std.proofs.Common.{◌≡◌, refl, sym, subst, ◌∙◌, ℕ, zero, suc, ◌+◌, ◌<◌, ◌≤◌, List, [], ◌∷◌, ◌++◌, length, Some, None, ◌⊎◌, inl, inr, arith, length-append}
use Rattle.std.specs.Prelude.{slice_get, slice_set, OnOk, IfErr, IsOk}
use Rattle.std.specs.declared.result.Result.{Result}
use Rattle.std.specs.declared.result.Result.TheVariants.{Ok, Err}
use Rattle.std.specs.List.{Contains}
use Rattle.std.proofs.lemmas.Option.{same_Some, slice_get_within}
use Rattle.std.proofs.lemmas.List.Elements.{Contains-append_cases, Contains-append_left, Contains-append_right, Contains-push, Contains-push_cases}
use Rattle.rtrb.specs.Ring.{SameProducer, known_free, sent}
use Rattle.xfs_base.proofs.Booleans.{contrary}
use Rattle.world_base.specs.declared.cluster.Cluster.{Cluster}
use Rattle.world_base.specs.Cluster.{place_of}
use Rattle.journals.proofs.Gets.{none_in}
use Rattle.live_links.specs.declared.letter.Letter.{Letter}
use Rattle.live_links.specs.Ends.{IsFor, Out, Pushes, Sends}
use Rattle.live_links.proofs.Each.{each_alone, each_same, each_set, each_then, out_then, same_out}

module _ (c : Cluster) where
  pushes_none : (q : ℕ) (o : Out) → Pushes c [] q o o
  pushes_none q o = record {
    same = same_out o;
    only = λ x found. inl found;
    before = λ x found. found;
    each = λ room x found is. absurd (none_in [] x refl found);
    room = omega arith;
  }

  pushes_then : (xs ys : List Letter) (q : ℕ) (a b d : Out) → Pushes c xs q a b → Pushes c ys q b d → Pushes c (xs ++ ys) q a d
  pushes_then xs ys q a b d f g = record {
    same = out_then a b d f.same g.same;
    only = λ x found. elim (g.only x found) [
      | inl before ↦
          elim (f.only x before) [
            | inl first ↦ inl first
            | inr now ↦ inr (now.0, Contains-append_left xs ys x now.1)
          ]
      | inr now ↦ inr (now.0, Contains-append_right xs ys x now.1)
    ];
    before = λ x found. g.before x (f.before x found);
    each = λ room x found is. elim (Contains-append_cases xs ys x found) [
      | inl first ↦ g.before x (f.each (omega (arith, length-append xs ys)) x first is)
      | inr now ↦ let left = f.room in g.each (omega (arith, length-append xs ys)) x now is
    ];
    room = let left = f.room in let more = g.room in omega (arith, length-append xs ys);
  }

  -- a letter that is for no node with a ring
  pushes_nowhere : (x : Letter) (q : ℕ) (o : Out) → (IsFor c q x → ⊥) → Pushes c (x ∷ []) q o o
  pushes_nowhere x q o apart = record {
    same = same_out o;
    only = λ y found. inl found;
    before = λ y found. found;
    each = λ room y found is. elim (Contains-push_cases [] x y found) [
      | inl none ↦ absurd (none_in [] y refl none)
      | inr same ↦ absurd (apart (subst (λ z. IsFor c q z) (sym same) is))
    ];
    room = omega arith;
  }

  pub pushes_one : (x : Letter) (q : ℕ) (o p : Out) → IsFor c q x → SameProducer o p → known_free o ≤ known_free p + 1
      → (sent p ≡ sent o ++ x ∷ []) ⊎ ((sent p ≡ sent o) × (known_free o ≡ 0)) → Pushes c (x ∷ []) q o p
  pushes_one x q o p is same room (inl went) = record {
    same = same;
    only = λ y found. elim (Contains-push_cases (sent o) x y (subst (λ ys. Contains ys y) went found)) [
      | inl before ↦ inl before
      | inr this ↦ inr (subst (λ z. IsFor c q z) this is, subst (λ z. Contains (x ∷ []) z) this (Contains-push [] x))
    ];
    before = λ y found. subst (λ ys. Contains ys y) (sym went) (Contains-append_left (sent o) (x ∷ []) y found);
    each = λ room' y found is'. elim (Contains-push_cases [] x y found) [
      | inl none ↦ absurd (none_in [] y refl none)
      | inr this ↦ subst (λ z. Contains (sent p) z) this (subst (λ ys. Contains ys x) (sym went) (Contains-push (sent o) x))
    ];
    room = room;
  }
  pushes_one x q o p is same room (inr full) = record {
    same = same;
    only = λ y found. inl (subst (λ ys. Contains ys y) full.0 found);
    before = λ y found. subst (λ ys. Contains ys y) (sym full.0) found;
    each = λ room' y found is'. absurd (let none = full.1 in omega arith);
    room = room;
  }

  pub sends_none : (outs : List Out) → Sends c outs [] outs
  sends_none outs = each_same (Pushes c []) pushes_none outs

  pub sends_then : (xs ys : List Letter) (a b d : List Out) → Sends c a xs b → Sends c b ys d → Sends c a (xs ++ ys) d
  sends_then xs ys a b d f g = each_then (Pushes c xs) (Pushes c ys) (Pushes c (xs ++ ys)) (pushes_then xs ys) a b d f g

  -- there is no such node
  pub sends_nowhere : (x : Letter) (outs : List Out) → place_of c x.packet.to ≡ None → Sends c outs (x ∷ []) outs
  sends_nowhere x outs none = each_same (Pushes c (x ∷ [])) (λ q o. pushes_nowhere x q o (λ is. let e : None ≡ Some q = sym none ∙ is in cc)) outs

  -- or no ring to it
  pub sends_past : (x : Letter) (outs : List Out) (i : ℕ) → IsFor c i x → length outs ≤ i → Sends c outs (x ∷ []) outs
  sends_past x outs i at past =
      each_alone (Pushes c (x ∷ [])) outs
      (λ q o there. pushes_nowhere x q o (λ is. let e : i ≡ q = same_Some i q (sym at ∙ is) in let h = slice_get_within outs q o there in omega arith))

  pub sends_at : (x : Letter) (outs : List Out) (i : ℕ) (o p : Out) → IsFor c i x → slice_get outs i ≡ Some o → Pushes c (x ∷ []) i o p → Sends c outs (x ∷ []) (slice_set outs i p)
  sends_at x outs i o p at there push =
      each_set (Pushes c (x ∷ [])) outs (slice_set outs i p) i o p (λ k z here apart. pushes_nowhere x k z (λ is. apart (same_Some i k (sym at ∙ is)))) there refl push

none_known : (n : ℕ) → (0 < n → ⊥) → n ≡ 0
none_known zero none = refl
none_known (suc n) none = absurd (none (omega arith))

-- a push ends in one of two ways
module _ {E : Type 0} (F : E → Type 0) (o p : Out) (x : Letter) where
  pub pushed_or_full : (r : Result (Unit {0}) E) → OnOk r ((sent p ≡ sent o ++ x ∷ []) × (known_free o ≤ known_free p + 1))
      → IfErr r (λ e. F e × (sent p ≡ sent o) × (known_free p ≡ 0)) → (0 < known_free o → IsOk r)
      → (sent p ≡ sent o ++ x ∷ []) ⊎ ((sent p ≡ sent o) × (known_free o ≡ 0))
  pushed_or_full (Ok u) ok full known = inl ok.0
  pushed_or_full (Err e) ok full known = inr (full.1, none_known (known_free o) (λ some. contrary (known some)))

  pub room_left : (r : Result (Unit {0}) E) → OnOk r ((sent p ≡ sent o ++ x ∷ []) × (known_free o ≤ known_free p + 1)) → (0 < known_free o → IsOk r)
      → known_free o ≤ known_free p + 1
  room_left (Ok u) ok known = ok.1
  room_left (Err e) ok known = let none = none_known (known_free o) (λ some. contrary (known some)) in omega arith
