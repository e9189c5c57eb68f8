-- Letters are popped: one end gives its oldest, and the others none.
use Rattle.std.proofs.Common.{◌≡◌, refl, sym, ap, subst, ◌∙◌, ℕ, ◌≢◌, List, [], ◌∷◌, ◌++◌, Option, Some, None, ◌⊎◌, inl, inr, arith}
use Rattle.std.specs.Prelude.{slice_get, slice_set, MatchOption}
use Rattle.std.specs.List.{Contains}
use Rattle.std.proofs.lemmas.Option.{slice_get_within}
use Rattle.std.proofs.lemmas.List.Elements.{Contains-append_left, Contains-push}
use Rattle.rtrb.specs.Ring.{SameConsumer, received}
use Rattle.journals.proofs.Gets.{has, same_or_not}
use Rattle.live_links.specs.declared.letter.Letter.{Letter}
use Rattle.live_links.specs.Ends.{AreStill, AtEach, In, Pops, Received, StillIn, TookAt, TookOne}
use Rattle.live_links.proofs.Each.{each_same, each_set, each_then, in_then, same_in}

still_in : (k : ℕ) (c : In) → StillIn k c c
still_in k c = (same_in c, refl)

still_then : (k : ℕ) (a b c : In) → StillIn k a b → StillIn k b c → StillIn k a c
still_then k a b c f g = (in_then a b c f.0 g.0, g.1 ∙ f.1)

pub still_none : (ins : List In) → AreStill ins ins
still_none ins = each_same StillIn still_in ins

pub still_set : (start mid : List In) (i : ℕ) (c d : In) → AreStill start mid → slice_get mid i ≡ Some c → StillIn i c d → AreStill start (slice_set mid i d)
still_set start mid i c d far at s =
    each_then StillIn StillIn StillIn still_then start mid (slice_set mid i d) far (each_set StillIn mid (slice_set mid i d) i c d (λ k z there apart. still_in k z) at refl s)

pops_after : (i : ℕ) (x : Letter) (k : ℕ) (a b c : In) → StillIn k a b → Pops i x k b c → Pops i x k a c
pops_after i x k a b c f g = record {
  same = in_then a b c f.0 g.same;
  here = λ e. g.here e ∙ ap (λ (xs : List Letter). xs ++ x ∷ []) f.1;
  others = λ e. g.others e ∙ f.1;
}

-- nothing was popped up to here, and then this one
pub took_after : (start mid new : List In) (i : ℕ) (x : Letter) → AreStill start mid → TookAt mid i x new → TookAt start i x new
took_after start mid new i x far t = (let e = far.0 in let h = t.0 in omega arith, each_then StillIn (Pops i x) (Pops i x) (pops_after i x) start mid new far t.1)

pub took_set : (start mid : List In) (i : ℕ) (c d : In) (x : Letter) → AreStill start mid → slice_get mid i ≡ Some c → SameConsumer c d → received d ≡ received c ++ x ∷ []
    → TookAt start i x (slice_set mid i d)
took_set start mid i c d x far at same more =
    let one : Pops i x i c d = record { same = same; here = λ e. more; others = λ e. absurd (e refl) } in
    let alone : (k : ℕ) (z : In) → slice_get mid k ≡ Some z → (i ≡ k → ⊥) → Pops i x k z z = λ k z there apart. record {
      same = same_in z;
      here = λ e. absurd (apart (sym e));
      others = λ e. refl;
    }
    in
    took_after start mid (slice_set mid i d) i x far (slice_get_within mid i c at, each_set (Pops i x) mid (slice_set mid i d) i c d alone at refl one)

-- the rings from one place on gave nothing, and then those before it were asked
pub took_round : (a b c : List In) (r : Option (ℕ × Letter)) → AreStill a b → MatchOption r (AreStill b c) (λ t. TookAt b t.0 t.1 c) → MatchOption r (AreStill a c) (λ t. TookAt a t.0 t.1 c)
took_round a b c None far rest = each_then StillIn StillIn StillIn still_then a b c far rest
took_round a b c (Some t) far rest = took_after a b c t.0 t.1 far rest

-- what was received stays so
abbrev pub Grows : ℕ → In → In → Type 0
Grows k c d = SameConsumer c d × ((x : Letter) → Contains (received c) x → Contains (received d) x)

pub grown_still : (ins new : List In) → AreStill ins new → AtEach Grows ins new
grown_still ins new s = (s.0, λ k c d at_c at_d. let e = s.1 k c d at_c at_d in (e.0, λ x found. subst (λ xs. Contains xs x) (sym e.1) found))

grown_one : (i : ℕ) (x : Letter) (k : ℕ) (c d : In) → Pops i x k c d → (k ≡ i) ⊎ (k ≢ i) → Grows k c d
grown_one i x k c d p (inl here) = (p.same, λ y found. subst (λ xs. Contains xs y) (sym (p.here here)) (Contains-append_left (received c) (x ∷ []) y found))
grown_one i x k c d p (inr apart) = (p.same, λ y found. subst (λ xs. Contains xs y) (sym (p.others apart)) found)

pub grown_took : (ins new : List In) (x : Letter) → TookOne ins x new → AtEach Grows ins new
grown_took ins new x t = (t.1.1.0, λ k c d at_c at_d. grown_one t.0 x k c d (t.1.1.1 k c d at_c at_d) (same_or_not k t.0))

-- and so is what was popped
pub received_took : (ins new : List In) (x : Letter) → TookOne ins x new → Received new x
received_took ins new x t =
    let within = t.1.0 in
    let count = t.1.1.0 in
    let c = has ins t.0 within in
    let d = has new t.0 (omega arith) in
    (t.0, d.0, d.1, subst (λ xs. Contains xs x) (sym ((t.1.1.1 t.0 c.0 d.0 c.1 d.1).here refl)) (Contains-push (received c.0) x))

pub grown_popped : (ins new : List In) (r : Option Letter) → MatchOption r (AreStill ins new) (λ x. TookOne ins x new) → AtEach Grows ins new
grown_popped ins new None still = grown_still ins new still
grown_popped ins new (Some x) took = grown_took ins new x took
