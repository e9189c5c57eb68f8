-- What a client that serves makes of its items for what comes, for time and for a call on blocks, read off its moves: it answers the open item only where a
-- segment is lost.
use Rattle.std.proofs.Common.{◌≡◌, List, Option, Some, None, [], ◌∷◌, ℕ, refl, sym, subst}
use Rattle.client_running.specs.Blocks.{blocks_make}
use Rattle.client_serving.specs.declared.serving.Serving.{Serving}
use Rattle.client_serving.specs.Follow.{serving_seal}
use Rattle.client_serving.specs.Packets.{serving_take, on_tick}
use Rattle.client_serving.specs.Reads.{loses}
use Rattle.client_serving.specs.Sends.{Done}
use Rattle.file_plan.specs.declared.block_call.BlockCall.{BlockCall}
use Rattle.file_plan.specs.declared.block_call.BlockAnswer.{BlockAnswer}
use Rattle.file_plan.specs.declared.block_call.BlockAnswer.TheVariants.{Got, Synced}
use Rattle.file_plan.specs.declared.block_call.BlockAnswer.TheVariants.{Put as Written}
use Rattle.file_plan.specs.declared.block_call.BlockCall.TheVariants.{Get, Put, PutAt, Sync}
use Rattle.node_base.specs.declared.effects.Effect.{Effect}
use Rattle.node_base.specs.declared.effects.Effect.TheVariants.{Lose}
use Rattle.wire_msg.specs.declared.packet.Packet.{Packet}
use Rattle.xfs_base.specs.declared.block.BlockId.{BlockId}
use Rattle.xfs_base.specs.declared.segment.SegName.{SegName}
use Rattle.xfs_base.specs.Steps.{saying}
use Rattle.node_base.specs.declared.items.Items.{Items}
use Rattle.serving_moves.proofs.call_moves.Arriving as arriving
use Rattle.serving_moves.proofs.call_moves.Blocks as blocks
use Rattle.serving_moves.proofs.call_moves.Following as following
use Rattle.serving_moves.proofs.call_moves.Keeping.{all_still_plain, call_then, itself, no_call}
use Rattle.serving_moves.proofs.call_moves.Reading.{of_moves}
use Rattle.serving_moves.proofs.item_moves.Keeping as moving
use Rattle.serving_moves.proofs.item_moves.Keeping.{moves_stay, plainly, then_goes}
use Rattle.serving_moves.specs.call_moves.Moves.{AllStill, CallStays, Comes, Kept, MakesSo, Moves, tells}
use Rattle.serving_moves.specs.call_moves.Moves.Comes.{Moved, Gone}
use Rattle.serving_moves.specs.item_moves.Moves.{AllPlain, IsNone, ItemsStay}
use Rattle.serving_moves.specs.item_moves.Moves.Losses.{Answering}
use Rattle.serving_moves.specs.item_moves.Moves.Move.{Loses}
use Rattle.serving_moves.specs.item_moves.Moves.Moves.{Last}

abbrev pub items_of : Serving → Items
items_of s = s.lasting.items

abbrev pub number_of : Serving → ℕ
number_of s = s.lasting.number

-- the item that is open
abbrev pub IsOpen : Serving → ℕ → Type 0
IsOpen s number = s.lasting.items.unanswered ≡ Some number

-- its open call stays, or is over
pub record Goes (s : Serving) (d : Done) : Type 0 where
  pub calls : CallStays s.call d.state.call
  pub does : moving.Goes Answering IsNone Serving items_of number_of s d

quiet_goes : (s : Serving) (d : Done) → Kept s d.state → AllPlain Answering d.outs → Goes s d
quiet_goes s d k plain =
    record { calls = k.calls; does = plainly s d k.number (subst (ItemsStay (items_of s)) (sym k.items) (moving.same (items_of s))) plain }

plain_goes : (s : Serving) (d : Done) → Kept s d.state → AllStill d.outs → Goes s d
plain_goes s d k still = quiet_goes s d k (all_still_plain d.outs still)

loses_goes : (s : Serving) (block : BlockId) (name : SegName) → Goes s (loses s block name)
unfolding loses
loses_goes s block name = record {
  calls = no_call s.call;
  does = record { its_number = refl; moves = Last (Loses name (Lose name ∷ []) tt (tt, tt) ([], refl)) };
}

both_go : (s : Serving) (d x : Done) → Goes s d → Goes d.state x → Goes s (saying d.outs x)
both_go s d x a b = record { calls = call_then s.call d.state.call x.state.call a.calls b.calls; does = then_goes s d x a.does b.does }

moves_go : (s : Serving) (d : Done) → Moves s d → Goes s d
moves_go = of_moves Goes plain_goes (λ s has. loses_goes s) both_go

comes_go : (s : Serving) (d : Done) → Comes s d → Goes s d
comes_go s d (Moved moves) = moves_go s d moves
comes_go s d (Gone block name) = loses_goes s block name

pub packet_goes : (s : Serving) (packet : Packet) → Goes s (serving_take s packet)
packet_goes s packet = comes_go s (serving_take s packet) (arriving.packet_goes s packet)

pub tick_goes : (s : Serving) → Goes s (on_tick s)
tick_goes s = moves_go s (on_tick s) (arriving.tick_goes s)

pub seals_go : (s : Serving) → Goes s (serving_seal s)
seals_go s = moves_go s (serving_seal s) (following.seals_go s)

told_plain : (client : ℕ) (call : BlockCall) (a : Option BlockAnswer) → AllPlain Answering (tells client call a)
told_plain client call None = tt
told_plain client (Get block) (Some (Got ver value)) = (tt, tt)
told_plain client (Put block value) (Some (Written ver)) = (tt, tt)
told_plain client (PutAt block named value) (Some (Written ver)) = (tt, tt)
told_plain client Sync (Some Synced) = (tt, tt)
told_plain client _ (Some _) = tt

pub makes_go : (s : Serving) (call : BlockCall) → Goes s (blocks_make s call).done
makes_go s call =
    let m : MakesSo s call (blocks_make s call) = blocks.makes_go s call in
    let said : List Effect = tells s.lasting.number call (blocks_make s call).answer in
    subst (Goes s) (sym m.all)
    (both_go s m.first (saying said m.last) (moves_go s m.first m.firstly)
    (both_go m.first.state (record { state = m.first.state; outs = said }) m.last
    (quiet_goes m.first.state (record { state = m.first.state; outs = said }) (itself m.first.state) (told_plain s.lasting.number call (blocks_make s call).answer))
    (moves_go m.first.state m.last m.lastly)))

pub items_stay : (s : Serving) (d : Done) → Goes s d → ItemsStay (items_of s) (items_of d.state)
items_stay s d g = moves_stay Answering IsNone (items_of s) (items_of d.state) d.outs g.does.moves
