-- One cell more is taken apart.
use Rattle.std.proofs.Common.{◌≡◌, refl, sym, subst, ℕ, zero, suc, ◌<◌, Bool, List, [], ◌∷◌, ◌++◌, length, Some, inl, inr, arith, length-append}
use Rattle.std.specs.Prelude.{slice_get}
use Rattle.std.proofs.lemmas.Option.{same_Some, slice_get_within}
use Rattle.script_text.specs.declared.script.Script.{Script}
use Rattle.version_model.specs.declared.work.Work.{Work}
use Rattle.wire_msg.specs.declared.packet.Do.{Do}
use Rattle.wire_msg.specs.NodeStep.{NodeStep}
use Rattle.xfs_base.specs.declared.node.NodeId.{NodeId}
use Rattle.xfs_base.specs.declared.setup.Setup.{Setup}
use Rattle.journals.specs.declared.moment.Moment.{Moment}
use Rattle.journals.proofs.Gets.{below_or_at}
use Rattle.live_links.specs.Ends.{In, Out}
use Rattle.live_links.specs.Parts.{AreParts, IsPart}

snoc_before : {X : Type 0} (xs : List X) (y z : X) (k : ℕ) → k < length xs → slice_get (xs ++ y ∷ []) k ≡ Some z → slice_get xs k ≡ Some z
snoc_before [] y z k below got = absurd (omega arith)
snoc_before (x ∷ xs) y z zero below got = got
snoc_before (x ∷ xs) y z (suc k) below got = snoc_before xs y z k (omega arith) got

snoc_at : {X : Type 0} (xs : List X) (y z : X) (k : ℕ) → k ≡ length xs → slice_get (xs ++ y ∷ []) k ≡ Some z → y ≡ z
snoc_at [] y z zero is got = same_Some y z got
snoc_at [] y z (suc k) is got = absurd (omega arith)
snoc_at (x ∷ xs) y z zero is got = absurd (omega arith)
snoc_at (x ∷ xs) y z (suc k) is got = snoc_at xs y z k (omega arith) got

module _ {N : Type 0} (step : N → Do → NodeStep N) (first : NodeId → Setup → List Work → N) (script : Script) (rings : List (List Out)) (full : Bool) where
  pub no_parts : AreParts step first script rings full [] [] [] []
  no_parts = record {
    nodes = refl;
    outs = refl;
    ins = refl;
    each = λ p j n o i a e b c. absurd (cc);
  }

  pub parts_more : (js : List (List Moment)) (ns : List N) (os : List (List Out)) (is : List (List In)) (j : List Moment) (n : N) (o : List Out) (i : List In)
      → AreParts step first script rings full js ns os is → IsPart step first script rings full (length js) j n o i
      → AreParts step first script rings full (js ++ j ∷ []) (ns ++ n ∷ []) (os ++ o ∷ []) (is ++ i ∷ [])
  parts_more js ns os is j n o i all one = record {
    nodes = let h = all.nodes in omega (arith, length-append ns (n ∷ []), length-append js (j ∷ []));
    outs = let h = all.outs in omega (arith, length-append os (o ∷ []), length-append js (j ∷ []));
    ins = let h = all.ins in omega (arith, length-append is (i ∷ []), length-append js (j ∷ []));
    each = λ p k m q r a e b c.
        let within = slice_get_within (js ++ j ∷ []) p k a in
        let nodes = all.nodes in
        let outs = all.outs in
        let ins = all.ins in
        elim (below_or_at p (length js) (omega (arith, length-append js (j ∷ [])))) [
          | inl less ↦
              all.each p k m q r (snoc_before js j k p less a) (snoc_before ns n m p (omega arith) e) (snoc_before os o q p (omega arith) b) (snoc_before is i r p (omega arith) c)
          | inr same ↦
              subst (λ x. IsPart step first script rings full p k m q x) (snoc_at is i r p (omega arith) c)
              (subst (λ x. IsPart step first script rings full p k m x i) (snoc_at os o q p (omega arith) b)
              (subst (λ x. IsPart step first script rings full p k x o i) (snoc_at ns n m p (omega arith) e)
              (subst (λ x. IsPart step first script rings full p x n o i) (snoc_at js j k p same a)
              (subst (λ (x : ℕ). IsPart step first script rings full x j n o i) (sym same) one))))
        ];
  }

  pub parts_next : (js : List (List Moment)) (ns : List N) (os : List (List Out)) (is : List (List In)) (j : List Moment) (n : N) (o : List Out) (i : List In)
      (js' : List (List Moment)) (ns' : List N) (os' : List (List Out)) (is' : List (List In))
      → AreParts step first script rings full js ns os is → IsPart step first script rings full (length js) j n o i → js' ≡ js ++ j ∷ [] → ns' ≡ ns ++ n ∷ [] → os' ≡ os ++ o ∷ []
      → is' ≡ is ++ i ∷ [] → AreParts step first script rings full js' ns' os' is'
  parts_next js ns os is j n o i js' ns' os' is' all one a e b c = rw (a, e, b, c) (parts_more js ns os is j n o i all one)

  -- the parts of a cell as they are taken out of it
  pub part_is : (p q : ℕ) (ms j : List Moment) (n m : N) (os o : List Out) (is i : List In) → p ≡ q → j ≡ ms → m ≡ n → o ≡ os → i ≡ is
      → IsPart step first script rings full p ms n os is → IsPart step first script rings full q j m o i
  part_is p q ms j n m os o is i at a e b c one =
      subst (λ (k : ℕ). IsPart step first script rings full k j m o i) at
      (subst (λ x. IsPart step first script rings full p j m o x) (sym c)
      (subst (λ x. IsPart step first script rings full p j m x is) (sym b)
      (subst (λ x. IsPart step first script rings full p j x os is) (sym e) (subst (λ x. IsPart step first script rings full p x n os is) (sym a) one))))
