-- The keys of an LRU cache after its calls, the most recently used first.
use Rattle.std.proofs.Common.{◌≡◌, ◌-◌, Bool, true, false, cond, ◌||◌, List, [], ◌∷◌, take, Option, Some, None, refl, sym, ap, ◌∙◌}
use Rattle.std.specs.List.{list_any, slice_get}
use Rattle.std.specs.Map.{keys_of, lookup, lookup_entry, remove_entry}
use Rattle.std.specs.Option.{MatchOption, is_some, option_map, option_map_or}
use Rattle.std.specs.Set.{remove_key}
use Rattle.std.proofs.lemmas.List.{take-map}
use Rattle.std.proofs.lemmas.Option.{slice_get-map}
use Rattle.std.proofs.lemmas.Map.Made.{is_some-lookup}
use Rattle.lru.specs.LruCache.{LruCache, promoted, put_entries, displaced}

module _ {K V : Type 0} (test : K → Bool) where
  pub keys-remove_entry : (es : List (K × V)) → keys_of (remove_entry test es) ≡ remove_key test (keys_of es)
  keys-remove_entry [] = refl
  keys-remove_entry (e ∷ es) =
      elim (test e.0) as (λ b. keys_of (cond b es (e ∷ remove_entry test es)) ≡ cond b (keys_of es) (e.0 ∷ remove_key test (keys_of es))) [
        | true ↦ refl
        | false ↦ ap (λ ks. e.0 ∷ ks) (keys-remove_entry es)
      ]

  -- the test holds of k alone
  module _ (k : K) (one : (x : K) → test x ≡ true → x ≡ k) where
    IsFoundBy : Bool → Option (K × V) → Type 0
    IsFoundBy any o = MatchOption o (any ≡ false) (λ e. (any ≡ true) × (e.0 ≡ k))

    found : (es : List (K × V)) → IsFoundBy (list_any test (keys_of es)) (lookup_entry test es)
    unfolding IsFoundBy
    found [] = refl
    found (e ∷ es) =
        elim (test e.0) as (λ b. test e.0 ≡ b → IsFoundBy (b || list_any test (keys_of es)) (cond b (Some e) (lookup_entry test es))) [
          | true ↦ λ p. (refl, one e.0 p)
          | false ↦ λ p. found es
        ] refl

    -- what `promote` and `put` leave: k first, where it is there, and else some other keys
    at_front : (es : List (K × V)) (v : K × V → V) (else : List (K × V))
        → keys_of (option_map_or (λ e. (e.0, v e) ∷ remove_entry test es) (lookup_entry test es) else) ≡ cond (list_any test (keys_of es))
        (k ∷ remove_key test (keys_of es)) (keys_of else)
    unfolding IsFoundBy
    at_front es v else =
        elim (lookup_entry test es) as
        (λ o. IsFoundBy (list_any test (keys_of es)) o
        → keys_of (option_map_or (λ e. (e.0, v e) ∷ remove_entry test es) o else) ≡ cond (list_any test (keys_of es)) (k ∷ remove_key test (keys_of es))
        (keys_of else)) [
          | None ↦ λ h. sym (ap (λ b. cond b (k ∷ remove_key test (keys_of es)) (keys_of else)) h)
          | Some e ↦ λ h. ap (λ x. x ∷ keys_of (remove_entry test es)) h.1 ∙ ap (λ ks. k ∷ ks) (keys-remove_entry es)
              ∙ sym (ap (λ b. cond b (k ∷ remove_key test (keys_of es)) (keys_of else)) h.0)
        ] (found es)

    pub keys-promoted : (es : List (K × V)) → keys_of (promoted test es) ≡ cond (list_any test (keys_of es)) (k ∷ remove_key test (keys_of es)) (keys_of es)
    keys-promoted es = at_front es (λ e. e.1) es

module _ {K V : Type 0} (eq : K → K → Bool) (c : LruCache K V) (k : K) (v : V) (one : (x : K) → eq k x ≡ true → x ≡ k) where
  pub keys-put_entries : keys_of (put_entries eq c k v) ≡ cond (list_any (eq k) (keys_of c.entries)) (k ∷ remove_key (eq k) (keys_of c.entries))
      (k ∷ take (c.cap - 1) (keys_of c.entries))
  keys-put_entries =
      at_front (eq k) k one c.entries (λ _. v) ((k, v) ∷ take (c.cap - 1) c.entries)
      ∙ ap (λ ks. cond (list_any (eq k) (keys_of c.entries)) (k ∷ remove_key (eq k) (keys_of c.entries)) (k ∷ ks))
      (sym (take-map (λ (e : K × V). e.0) (c.cap - 1) c.entries))

  -- the key that `push` pushes out, where k was not there
  pub key-displaced : cond (is_some (lookup (eq k) c.entries)) None (option_map (λ (e : K × V). e.0) (displaced eq c k v)) ≡ cond
      (list_any (eq k) (keys_of c.entries)) None (slice_get (keys_of c.entries) (c.cap - 1))
  key-displaced =
      elim (lookup (eq k) c.entries) as
      (λ o. lookup (eq k) c.entries ≡ o
      → cond (is_some o) None (option_map (λ (e : K × V). e.0) (option_map_or (λ old. Some (k, old)) o (slice_get c.entries (c.cap - 1)))) ≡ cond
      (list_any (eq k) (keys_of c.entries)) None (slice_get (keys_of c.entries) (c.cap - 1))) [
        | None ↦ λ p. sym (slice_get-map (λ (e : K × V). e.0) c.entries (c.cap - 1))
            ∙ sym (ap (λ b. cond b None (slice_get (keys_of c.entries) (c.cap - 1))) (sym (is_some-lookup (eq k) c.entries) ∙ ap is_some p))
        | Some old ↦ λ p. sym (ap (λ b. cond b None (slice_get (keys_of c.entries) (c.cap - 1))) (sym (is_some-lookup (eq k) c.entries) ∙ ap is_some p))
      ] refl
