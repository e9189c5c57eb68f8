-- What a board's registry makes of the commands that are applied, one list of them after another.
use Rattle.std.proofs.Common.{◌≡◌, ℕ, List, [], ◌∷◌, ◌++◌, length, drop, refl, sym, ap, ◌∙◌, subst, append_assoc}
use Rattle.wire_msg.specs.declared.packet.Packet.{Packet}
use Rattle.xfs_base.proofs.StepLoops.{steps_both}
use Rattle.xfs_base.specs.Steps.{Stepped, steps}
use Rattle.board_protocol.specs.Basics.{Prefix}
use Rattle.board_protocol.proofs.Prefixes.{completed}
use Rattle.board.specs.declared.command.Command.{Command}
use Rattle.board.specs.declared.output.Out.{Out}
use Rattle.board.specs.declared.output.Out.TheVariants.{Send, Apply}
use Rattle.board_law.specs.board_tie.Follows.{applied_in}
use Rattle.board_world.specs.declared.replica.Replica.{Replica}
use Rattle.board_world.specs.BoardTurns.{give_all}
use Rattle.board_world.specs.Replicas.{replica_apply, applied_all}
use Rattle.board_law.proofs.Places.{Stands, stands_left, stands_right}

-- the outs of one list's steps, and then those of the other's
pub outs_both : {S O A : Type 0} (step : S → A → Stepped S O) (s : S) (first second : List A)
    → (steps step s (first ++ second)).outs ≡ (steps step s first).outs ++ (steps step (steps step s first).state second).outs
outs_both step s [] second = refl
outs_both step s (x ∷ first) second =
    ap (λ more. (step s x).outs ++ more) (outs_both step (step s x).state first second)
    ∙ sym (append_assoc (step s x).outs (steps step (step s x).state first).outs (steps step (steps step (step s x).state first).state second).outs)

module _ (items : ℕ) where
  -- what a board gives to apply is applied, in order
  pub given_state : (r : Replica) (outs : List Out) → (give_all items r outs).state ≡ (applied_all items r (applied_in outs)).state
  given_state r [] = refl
  given_state r (Send packet ∷ outs) = given_state r outs
  given_state r (Apply command ∷ outs) = given_state (replica_apply items r command).state outs

  pub given_outs : (r : Replica) (outs : List Out) → (give_all items r outs).outs ≡ (applied_all items r (applied_in outs)).outs
  given_outs r [] = refl
  given_outs r (Send packet ∷ outs) = given_outs r outs
  given_outs r (Apply command ∷ outs) = ap (λ more. (replica_apply items r command).outs ++ more) (given_outs (replica_apply items r command).state outs)

  -- What the registry sends by the front of a list it sends by the list.
  pub sent_by_front : (r : Replica) (front all : List Command) (packet : Packet) → Prefix front all → Stands (applied_all items r front).outs packet
      → Stands (applied_all items r all).outs packet
  sent_by_front r front all packet p at =
      let rest = drop (length front) all in
      let more = (applied_all items (applied_all items r front).state rest).outs in
      let both : Stands (applied_all items r (front ++ rest)).outs packet =
      subst (λ outs. Stands outs packet) (sym (outs_both (replica_apply items) r front rest)) (stands_left (applied_all items r front).outs more packet at) in
      subst (λ list. Stands (applied_all items r list).outs packet) (completed front all p) both

  -- What it sends by the rest of a list, too.
  pub sent_by_rest : (r : Replica) (front rest : List Command) (packet : Packet) → Stands (applied_all items (applied_all items r front).state rest).outs packet
      → Stands (applied_all items r (front ++ rest)).outs packet
  sent_by_rest r front rest packet at =
      let more = (applied_all items (applied_all items r front).state rest).outs in
      subst (λ outs. Stands outs packet) (sym (outs_both (replica_apply items) r front rest)) (stands_right (applied_all items r front).outs more packet at)

  pub state_both : (r : Replica) (front rest : List Command)
      → (applied_all items r (front ++ rest)).state ≡ (applied_all items (applied_all items r front).state rest).state
  state_both r front rest = steps_both (replica_apply items) r front rest
