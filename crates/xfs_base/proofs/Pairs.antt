-- What `retain` leaves of a table when its closure writes every value and keeps every key.
use Rattle.std.proofs.Common.{◌≡◌, Bool, true, cond, List, [], ◌∷◌, map, ap, ◌∙◌, subst}
use Rattle.std.specs.Map.Calls.{RetainsPairs}

-- a closure that always answers true, writes g of each key and value, and stays as it was
pub map_each_pair : {F K X : Type 0} (T : F → K → X → Bool → X → F → Type 0) (g : K → X → X) (f : F)
    → ((k : K) (v : X) (b : Bool) (w : X) (f' : F) → T f k v b w f' → (b ≡ true) × (w ≡ g k v) × (f' ≡ f)) → (es kept : List (K × X)) → RetainsPairs T f es kept
    → kept ≡ map (λ e. (e.0, g e.0 e.1)) es
map_each_pair T g f h [] kept r = r
map_each_pair T g f h (e ∷ es) kept r =
    let a = h e.0 e.1 r.0 r.1 r.2 r.4 in
    let rest = map_each_pair T g f h es r.3 (subst (λ u. RetainsPairs T u es r.3) a.2 r.5) in
    r.6 ∙ ap (λ b. cond b ((e.0, r.1) ∷ r.3) r.3) a.0 ∙ (λ i. (e.0, a.1 i) ∷ rest i)
