-- What a client has acted of blocks since an item began is one stretch of the item's call.
use Rattle.std.proofs.Common.{◌≡◌, ℕ, Bool, true, false, cond, ◌==◌, List, [], ◌∷◌, ◌++◌, append_assoc, Option, Some, refl, sym, ap, subst, ◌∙◌}
use Rattle.std.proofs.lemmas.Bool.{eqb-true}
use Rattle.std.proofs.lemmas.List.Elements.{filter-append}
use Rattle.std.specs.List.{AllByRecursion}
use Rattle.client_call.specs.declared.call.Call.{Call}
use Rattle.client_call.specs.declared.call.Going.{Going}
use Rattle.client_call.specs.declared.call.Going.TheVariants.{On}
use Rattle.file_plan.specs.declared.block_call.BlockAnswer.{BlockAnswer}
use Rattle.file_plan.specs.declared.block_call.BlockAnswer.TheVariants.{Got, Changed, Synced}
use Rattle.file_plan.specs.declared.block_call.BlockAnswer.TheVariants.{Put as Written}
use Rattle.file_plan.specs.declared.block_call.BlockCall.{BlockCall}
use Rattle.file_plan.specs.declared.block_call.BlockCall.TheVariants.{Get, Put, PutAt, Sync}
use Rattle.headline.specs.Calls.{EventStretch, IsClients, Stretch, of_items, told}
use Rattle.token_client.specs.declared.held.Held.{Held}
use Rattle.version_model.specs.declared.act.Act.{Act}
use Rattle.version_model.specs.declared.act.Act.TheVariants as act
use Rattle.xfs_base.proofs.Booleans.{equal_itself}
use Rattle.xfs_base.specs.declared.block.BlockId.{BlockId}
use Rattle.run_answers.proofs.own_law.Clients.{reads_on}
use Rattle.headline.specs.Calls.EventStretch.{Awaits, Follows, Concludes}
use Rattle.headline.specs.Calls.Stretch.{Waits, Told, Finishes}
use Rattle.headline.specs.ItemActs.{blocks_by, is_block_of}

-- ---- stretches, one behind another

module _ (client : ℕ) where
  -- one of an event is one
  pub forget : {item : Option ℕ} {now : BlockId → Held} {going : Going} {acts : List Act} {after : Option Call} → EventStretch client item now going acts after
      → Stretch client item going acts after
  forget (Awaits plan step) = Waits plan step
  forget (Follows a fits since st) = Told a fits (forget st)
  forget (Concludes a) = Finishes a

  pub stretch_then : {item : Option ℕ} {going : Going} {xs ys : List Act} {call : Call} {after : Option Call} → Stretch client item going xs (Some call)
      → Stretch client item (On call) ys after → Stretch client item going (xs ++ ys) after
  stretch_then {call = call} (Waits {call = old} plan step) more = reads_on client old call plan step more
  stretch_then {item} {ys = ys} {after = after} (Told {call = old} {acts = rest} a fits st) more =
      subst (λ (acts : List Act). Stretch client item (On old) acts after) (sym (append_assoc (told client old.step a) rest ys))
      (Told a fits (stretch_then st more))

  -- ---- acts of blocks of the client

  pub its_told : (step : BlockCall) (a : BlockAnswer) → blocks_by client (told client step a) ≡ told client step a
  its_told (Get block) (Got ver value) = ap (λ (t : Bool). cond t (act.Read client block ver value ∷ []) []) (equal_itself client)
  its_told (Put block value) (Written ver) = ap (λ (t : Bool). cond t (act.Wrote client block value ∷ []) []) (equal_itself client)
  its_told (PutAt block named value) (Written ver) = ap (λ (t : Bool). cond t (act.Wrote client block value ∷ []) []) (equal_itself client)
  its_told Sync Synced = ap (λ (t : Bool). cond t (act.Synced client ∷ []) []) (equal_itself client)
  its_told (Get block) (Written ver) = refl
  its_told (Get block) Changed = refl
  its_told (Get block) Synced = refl
  its_told (Put block value) (Got ver v) = refl
  its_told (Put block value) Changed = refl
  its_told (Put block value) Synced = refl
  its_told (PutAt block named value) (Got ver v) = refl
  its_told (PutAt block named value) Changed = refl
  its_told (PutAt block named value) Synced = refl
  its_told Sync (Got ver v) = refl
  its_told Sync (Written ver) = refl
  its_told Sync Changed = refl

  pub blocks_then : (xs ys : List Act) → blocks_by client (xs ++ ys) ≡ blocks_by client xs ++ blocks_by client ys
  blocks_then xs ys = filter-append (is_block_of client) xs ys

  -- a stretch that waits has no others
  pub its_stretch : {item : Option ℕ} {going : Going} {acts : List Act} {call : Call} → Stretch client item going acts (Some call) → blocks_by client acts ≡ acts
  its_stretch (Waits plan step) = refl
  its_stretch (Told {call = old} {acts = rest} a fits st) =
      blocks_then (told client old.step a) rest ∙ (ap (λ (acts : List Act). acts ++ blocks_by client rest) (its_told old.step a)
      ∙ ap (λ (acts : List Act). told client old.step a ++ acts) (its_stretch st))

  -- they are acts of items
  pub of_items_same : (acts : List Act) → blocks_by client (of_items acts) ≡ blocks_by client acts
  of_items_same [] = refl
  of_items_same (act.Filed seg ∷ acts) = of_items_same acts
  of_items_same (act.Dropped seg ∷ acts) = of_items_same acts
  of_items_same (act.Lost node seg ∷ acts) = of_items_same acts
  of_items_same (act.Answered node item a ∷ acts) = of_items_same acts
  of_items_same (act.Fell c flight falls ∷ acts) = of_items_same acts
  of_items_same (act.Back c chain ∷ acts) = of_items_same acts
  of_items_same (act.Wrote c block value ∷ acts) =
      ap (λ (xs : List Act). cond (c == client) (act.Wrote c block value ∷ xs) xs) (of_items_same acts)
  of_items_same (act.Read c block ver value ∷ acts) =
      ap (λ (xs : List Act). cond (c == client) (act.Read c block ver value ∷ xs) xs) (of_items_same acts)
  of_items_same (act.Synced c ∷ acts) = ap (λ (xs : List Act). cond (c == client) (act.Synced c ∷ xs) xs) (of_items_same acts)

  -- what others act is none of them
  abbrev pub IsOthers : Act → Type 0
  IsOthers a = is_block_of client a ≡ false

  pub none_by : (acts : List Act) → AllByRecursion IsOthers acts → blocks_by client acts ≡ []
  none_by [] all = refl
  none_by (a ∷ acts) all = ap (λ (t : Bool). cond t (a ∷ blocks_by client acts) (blocks_by client acts)) all.0 ∙ none_by acts all.1

  pub no_clients : (a : Act) → (IsClients a → ⊥) → IsOthers a
  no_clients (act.Wrote c block value) none = absurd (none tt)
  no_clients (act.Read c block ver value) none = absurd (none tt)
  no_clients (act.Synced c) none = absurd (none tt)
  no_clients _ none = refl

  pub differs : (c : ℕ) → (c ≡ client → ⊥) → (c == client) ≡ false
  differs c apart = by (c == client) refl
    where
      by : (t : Bool) → (c == client) ≡ t → t ≡ false
      by false fact = refl
      by true fact = absurd (apart (eqb-true c client fact))
