use Rattle.std.proofs.Common.{◌≡◌, ℕ, suc, ◌+◌, ◌-◌, ◌<◌, Bool, true, ◌&&◌, sym, ap, ◌∙◌, arith}
use Rattle.std.specs.List.{list_all, range_with_len}
use Rattle.node_base.specs.Room.{has_room}
use Rattle.token_client.specs.State.{epoch_of}
use Rattle.xfs_base.specs.Limits.{slot_count}
use Rattle.client_node.proofs.room.epochs_have_room.Goals as goal

-- where one passes the test, all depends on those after it
one_more : (test : ℕ → Bool) (slot n : ℕ) (all : Bool) → slot < n → test slot ≡ true → list_all test (range_with_len slot (n - slot)) ≡ all
    → list_all test (range_with_len (slot + 1) (n - (slot + 1))) ≡ all
one_more test slot n all below passes before =
    let left : n - slot ≡ suc (n - (slot + 1)) = omega arith in
    ap (λ b. b && list_all test (range_with_len (slot + 1) (n - (slot + 1)))) (sym passes) ∙ ap (λ k. list_all test (range_with_len slot k)) (sym left) ∙ before

pub loop-slot-preserved : goal.loop-slot-preserved
loop-slot-preserved c =
    let room : ℕ → Bool = λ slot. has_room (epoch_of c.args.tokens.now.epochs slot) in
    one_more room c.loop-slot.slot slot_count (list_all room (range_with_len 0 slot_count)) (omega arith)
    (ap has_room (sym c.promised.ensures) ∙ sym c.has_room.ensures ∙ c.if-not-has_room.false) c.loop-slot.invariant
