-- The run of the example, thing by thing: each net is the one before it after one thing that can happen.
use Rattle.std.specs.Prelude.{if◌then◌else◌}
use Rattle.std.proofs.Common.{◌≡◌, ℕ, zero, suc, ◌≤◌, ◌<◌, Bool, true, false, List, [], ◌∷◌, inl, inr, Some, None, cond, unwrap_or, refl, sym, ap, subst, ◌∙◌, arith}
use Rattle.xfs_base.specs.declared.block.BlockId.{BlockId}
use Rattle.xfs_base.specs.declared.entry.Entry.{Entry}
use Rattle.xfs_base.specs.declared.entry.Place.{Place}
use Rattle.xfs_base.specs.declared.token.Mode.TheVariants.{Copy, Own}
use Rattle.xfs_base.specs.declared.token.Stamp.{Stamp}
use Rattle.std.specs.Ordering.{eq_by_cmp}
use Rattle.std.proofs.lemmas.Map.Views.{tells_apart}
use Rattle.xfs_base.specs.Blocks.{block_cmp, same_block}
use Rattle.xfs_base.proofs.BlockOrder.{block_cmp_exact, same_block_exact}
use Rattle.xfs_base.proofs.Booleans.{contrary}
use Rattle.version_model.specs.declared.act.Act.TheVariants as act
use Rattle.token_client.specs.declared.held.Held.{Held}
use Rattle.token_client.specs.declared.input.In.TheVariants as input
use Rattle.token_client.specs.Held.{held_new, held_ask, held_own, held_write, version_settled, give_up, copy_of}
use Rattle.token_client.specs.State.{TokensState, held_of}
use Rattle.token_client.specs.Transition as client
use Rattle.token_manager.specs.declared.input.In.TheVariants as told
use Rattle.token_manager.specs.SlotState.{SlotState}
use Rattle.token_manager.specs.Transition as slot
use Rattle.token_protocol.specs.Basics.{put}
use Rattle.delta_index.specs.Entries.{no_entry}
use Rattle.delta_index.specs.Index.{entry_of, merged}
use Rattle.slot_beliefs.specs.Index.{block_index_merge, merge_all}
use Rattle.token_law.specs.Books.{Row, row_in, nothing_said, said, sealed, filed}
use Rattle.token_law.specs.Example.{example_block, example_value, IsShared}
use Rattle.token_law.specs.Net.{Net, opening, IsServing, Happens}
use Rattle.token_law.specs.Net.Packet.{WantSent, GrantSent, RecallSent, GaveSent, ForwardSent, SupplySent}
use Rattle.token_law.specs.Net.Happens.{Acts, GetsWant, GetsOwn, Seals, Files, GetsDeltas, GetsRecall, GetsGave, GetsForward, GetsSupply, Reads}
use Rattle.token_law.specs.Net.Runs.{Begun, On}
use Rattle.token_law.specs.Owed.{IsNewest, SealsNewest, DeltasCover, Covers}
use Rattle.token_law.proofs.Start.{ones, zeros}
use Rattle.token_law.proofs.Views.{some_one}

abbrev at : ℕ → Stamp
at turn = record { epoch = 1; turn = turn }

-- a client's tokens, with this known of the block
abbrev knows : Held → TokensState
knows h = record { inc = 1; epochs = ones; req = 1; blocks = (example_block, h) ∷ [] }

abbrev nothing_there : Entry
nothing_there = record { ver = 0; hop = 0; place = None }

-- ---- the first client asks to own the block, and writes it

abbrev wants : Held
wants = held_ask held_new 1 Own

abbrev n1 : Net
n1 = record opening { tokens = put opening.tokens 1 (knows wants); sent = WantSent 1 1 1 0 example_block Own 0 ∷ [] }

serves : (n : Net) (c : ℕ) → 0 < c → c < 3 → n.up c ≡ true → IsServing true 3 n c (n.books.end c)
serves n c some within up = record { some = some; within = within; up = up; end_is = refl }

step1 : Happens true 3 1 opening n1
unfolding client.on_need client.tokens_ask
step1 = Acts 1 0 (input.Need example_block Own) (serves opening 1 (omega arith) (omega arith) refl) tt

abbrev z0 : SlotState
z0 = slot.slot_start 1 [] [] zeros

abbrev z1 : SlotState
z1 = (slot.transition z0 (told.Want (slot.want_of 1 example_block 1 1 0 Own) 0)).state

abbrev n2 : Net
n2 = record n1 { slots = put n1.slots 1 (Some z1); sent = GrantSent 1 example_block (at 1) 1 1 Own nothing_there ∷ n1.sent }

step2 : Happens true 3 1 n1 n2
step2 = GetsWant 1 z0 1 1 1 0 example_block Own 0 refl (inl refl)

abbrev wrote : Held
wrote = held_write (held_own wants (at 1) 0) example_value

abbrev n3 : Net
n3 = record n2 { tokens = put n2.tokens 1 (knows wrote); acts = act.Wrote 1 example_block example_value ∷ [] }

step3 : Happens true 3 1 n2 n3
unfolding client.on_granted client.on_wrote
step3 = GetsOwn 1 0 example_block (at 1) 1 1 nothing_there example_value (serves n2 1 (omega arith) (omega arith) refl) (inl refl) refl refl

-- ---- it seals a segment, which is filed

abbrev rows : List (BlockId × Row)
rows = (example_block, record { version = 1; value = example_value }) ∷ []

seals_newest : SealsNewest (knows wrote) rows
seals_newest = record { once = (refl, tt); newest = λ k. go k (same_block example_block k) refl }
  where
    go : (k : BlockId) (t : Bool) → same_block example_block k ≡ t → IsNewest (held_of (knows wrote).blocks k) (row_in rows k)
    go k true fact = subst (λ x. IsNewest (held_of (knows wrote).blocks x) (row_in rows x)) (sym (same_block_exact example_block k fact)) (inr (
      refl,
      refl,
      refl,
    ))
    go k false fact = inl (ap (λ t. if t then record { version = 1; value = example_value } else nothing_said) fact)

abbrev n4 : Net
n4 = record n3 { books = sealed n3.books 1 rows }

step4 : Happens true 3 1 n3 n4
step4 = Seals 1 rows (omega arith) (omega arith) refl refl seals_newest

abbrev known_settled : Held
known_settled = version_settled wrote 1

abbrev n5 : Net
n5 = record n4 { tokens = put n4.tokens 1 (knows known_settled); books = filed n4.books 1 }

step5 : Happens true 3 1 n4 n5
unfolding client.on_settled
step5 = Files 1 (omega arith) (omega arith) refl refl

-- ---- the manager's index learns of it

abbrev place : Place
place = record { seg = record { name = record { log = record { 0 = 1 }; seq = 1; pass = record { inc = 1; att = 0 } }; group = 0 }; item = 0 }

abbrev entry : Entry
entry = record { ver = 1; hop = 0; place = Some place }

abbrev deltas : List (BlockId × Entry)
deltas = (example_block, entry) ∷ []

abbrev z2 : SlotState
z2 = (slot.transition z1 (told.Deltas (record { 0 = 1 }) 1 1 deltas)).state

abbrev n6 : Net
n6 = record n5 { slots = put n5.slots 1 (Some z2) }

same_place : (p : Place) → Some place ≡ Some p → (p.seg.name.log.0 ≡ 1) × (p.seg.name.seq ≡ 1)
same_place p fact = let same = some_one place p fact in (ap (λ (x : Place). x.seg.name.log.0) (sym same), ap (λ (x : Place). x.seg.name.seq) (sym same))

covers_here : Covers n5.books example_block 1 1 (slot.entry_at z1 example_block) (entry_of (merge_all z1.index deltas).rows example_block)
unfolding block_index_merge merged
covers_here = record {
  later = omega arith;
  rows = λ q. limit q;
  source = inr (inr (1, 1, record { filed = omega arith; some = omega arith; row = refl; absent = λ none. absurd (cc); place = same_place }));
}
  where
    limit : (q : ℕ) → q ≤ 1 → (said n5.books 1 q example_block).version ≤ 1
    limit zero below = omega arith
    limit (suc zero) below = omega arith
    limit (suc (suc q)) below = absurd (omega arith)

-- of another block it learns nothing
nothing_of : (k : BlockId) → same_block example_block k ≡ false → entry_of deltas k ≡ no_entry
nothing_of k differs = ap (λ t. unwrap_or (cond t (Some entry) None) no_entry) (apart (eq_by_cmp block_cmp k example_block) refl)
  where
    apart : (t : Bool) → eq_by_cmp block_cmp k example_block ≡ t → t ≡ false
    apart true fact = contrary (sym differs ∙ ap (λ (x : BlockId). same_block example_block x) (tells_apart block_cmp_exact k example_block fact))
    apart false fact = refl

covers_there : (k : BlockId) → same_block example_block k ≡ false → Covers n5.books k 1 1 (slot.entry_at z1 k) (entry_of (merge_all z1.index deltas).rows k)
unfolding block_index_merge merged
covers_there k differs = record { later = omega arith; rows = λ q. limit q; source = inl (nothing_of k differs) }
  where
    row : (row_in rows k).version ≡ 0
    row = ap (λ t. (if t then record { version = 1; value = example_value } else nothing_said).version) differs

    limit : (q : ℕ) → q ≤ 1 → (said n5.books 1 q k).version ≤ (entry_of (merge_all z1.index deltas).rows k).ver
    limit zero below = omega arith
    limit (suc zero) below = let none = row in omega arith
    limit (suc (suc q)) below = absurd (omega arith)

deltas_cover : DeltasCover 1 n5.books z1 (record { 0 = 1 }) 1 deltas
deltas_cover = record { filed = omega arith; each = λ k inside. go k (same_block example_block k) refl }
  where
    go : (k : BlockId) (t : Bool) → same_block example_block k ≡ t → Covers n5.books k 1 1 (slot.entry_at z1 k) (entry_of (merge_all z1.index deltas).rows k)
    go k true fact =
        subst (λ x. Covers n5.books x 1 1 (slot.entry_at z1 x) (entry_of (merge_all z1.index deltas).rows x))
        (sym (same_block_exact example_block k fact)) covers_here
    go k false fact = covers_there k fact

step6 : Happens true 3 1 n5 n6
step6 = GetsDeltas 1 z1 (record { 0 = 1 }) 1 1 deltas refl (omega arith) (omega arith) (λ latest. deltas_cover)

-- ---- the second client asks for a copy, the first keeps one, and supplies it

abbrev needs : Held
needs = held_ask held_new 1 Copy

abbrev n7 : Net
n7 = record n6 { tokens = put n6.tokens 2 (knows needs); sent = WantSent 2 1 1 0 example_block Copy 0 ∷ n6.sent }

step7 : Happens true 3 1 n6 n7
unfolding client.on_need client.tokens_ask
step7 = Acts 2 0 (input.Need example_block Copy) (serves n6 2 (omega arith) (omega arith) refl) tt

abbrev z3 : SlotState
z3 = (slot.transition z2 (told.Want (slot.want_of 2 example_block 1 1 0 Copy) 0)).state

abbrev n8 : Net
n8 = record n7 { slots = put n7.slots 1 (Some z3); sent = RecallSent 1 example_block (at 2) true ∷ n7.sent }

step8 : Happens true 3 1 n7 n8
step8 = GetsWant 1 z2 2 1 1 0 example_block Copy 0 refl (inl refl)

abbrev kept : Held
kept = give_up known_settled (at 2) true

abbrev n9 : Net
n9 = record n8 { tokens = put n8.tokens 1 (knows kept); sent = GaveSent 1 example_block (at 2) 1 ∷ n8.sent }

step9 : Happens true 3 1 n8 n9
unfolding client.on_recalled client.recalled client.recalled_above client.refetch client.give
step9 = GetsRecall 1 1 example_block (at 2) true (serves n8 1 (omega arith) (omega arith) refl) (inl refl)

abbrev z4 : SlotState
z4 = (slot.transition z3 (told.Gave 1 example_block (at 2) 1)).state

abbrev n10 : Net
n10 = record n9 { slots = put n9.slots 1 (Some z4); sent = ForwardSent 1 2 example_block (at 3) 1 1 1 ∷ n9.sent }

step10 : Happens true 3 1 n9 n10
unfolding slot.gave_noted block_index_merge merged
step10 = GetsGave 1 z3 1 example_block (at 2) 1 refl (inl refl)

abbrev n11 : Net
n11 = record n10 { sent = SupplySent 2 example_block (at 3) 1 1 1 example_value ∷ n10.sent }

step11 : Happens true 3 1 n10 n11
step11 = GetsForward 1 2 example_block (at 3) 1 1 1 example_value (omega arith) (omega arith) (inl refl) refl refl refl

-- ---- it reads

abbrev n12 : Net
n12 = record n11 { tokens = put n11.tokens 2 (knows (copy_of needs (at 3) 1 example_value)) }

step12 : Happens true 3 1 n11 n12
unfolding client.on_supplied
step12 = GetsSupply 2 0 example_block (at 3) 1 1 1 example_value (serves n11 2 (omega arith) (omega arith) refl) (inl refl)

abbrev n13 : Net
n13 = record n12 { acts = act.Wrote 1 example_block example_value ∷ act.Read 2 example_block 1 example_value ∷ [] }

step13 : Happens true 3 1 n12 n13
step13 = Reads 2 example_block example_value (omega arith) (omega arith) refl refl refl

pub shared : IsShared
shared = (
  n13,
  record {
    run = On (On (On (On (On (On (On (On (On (On (On (On (On Begun step1) step2) step3) step4) step5) step6) step7) step8) step9) step10) step11) step12)
        step13;
    acts = refl;
    filed = refl;
  },
)
