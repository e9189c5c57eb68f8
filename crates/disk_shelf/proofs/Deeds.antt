-- What one deed more of a disk in memory adds to the images that it might have left.
use Rattle.std.proofs.Common.{◌≡◌, inl, inr, ⊎_elim, ℕ, ◌+◌, ◌<◌, ◌≤◌, List, [], ◌∷◌, ◌++◌, length, refl, sym, subst, arith, length-append}
use Rattle.std.proofs.lemmas.Bool.{cases_lt}
use Rattle.std.proofs.lemmas.List.{take_all, take-append-le}
use Rattle.disk_shelf.specs.Deeds.{Deed, Images, after_deed, after_deeds, images, IsImage, WasImage, Goes}

pub deeds_more : (i : Images) (ds : List Deed) (d : Deed) → after_deeds i (ds ++ d ∷ []) ≡ after_deed (after_deeds i ds) d
deeds_more i [] d = refl
deeds_more i (e ∷ ds) d = deeds_more (after_deed i e) ds d

pub one_more : (ds : List Deed) (d : Deed) → Goes ds (ds ++ d ∷ [])
one_more ds d = record {
  later = omega (arith, long);
  nothing_else = λ t c le was. ⊎_elim (λ above. inr (last c was above)) (λ within. inl (earlier t c was within)) (cases_lt (length ds) was.count);
  keeps = λ t c le was. record {
    count = was.count;
    late = was.late;
    done = omega (arith, was.done, long);
    left = subst (λ (es : List Deed). IsImage (images es) c) (sym (take-append-le was.count ds (d ∷ []) was.done)) was.left;
  };
}
  where
    long : length (ds ++ d ∷ []) ≡ length ds + 1
    long = length-append ds (d ∷ [])

    last : {t : ℕ} (c : List ℕ) (was : WasImage (ds ++ d ∷ []) t c) → length ds < was.count → IsImage (images (ds ++ d ∷ [])) c
    last c was above =
        subst (λ (es : List Deed). IsImage (images es) c) (take_all was.count (ds ++ d ∷ []) (omega (arith, above, long))) was.left

    earlier : (t : ℕ) (c : List ℕ) (was : WasImage (ds ++ d ∷ []) t c) → was.count ≤ length ds → WasImage ds t c
    earlier t c was within = record {
      count = was.count;
      late = was.late;
      done = within;
      left = subst (λ (es : List Deed). IsImage (images es) c) (take-append-le was.count ds (d ∷ []) within) was.left;
    }

pub none_more : (ds : List Deed) → Goes ds ds
none_more ds = record { later = omega arith; nothing_else = λ t c le was. inl was; keeps = λ t c le was. was }
