-- What an input that is no grant makes of the tokens of a client: they put another state of a block, want it, promise a slot, or say something.
use Rattle.std.specs.Prelude.{◌≡◌, ℕ, ◌+◌, Bool, true, nat_le, nat_lt, List, [], ◌∷◌, ◌++◌, Option, Some}
use Rattle.token_client.specs.declared.held.Held.{Held}
use Rattle.token_client.specs.declared.held.Wanted.{Wanted}
use Rattle.token_client.specs.declared.input.In.{In}
use Rattle.token_client.specs.declared.input.In.TheVariants as input
use Rattle.token_client.specs.declared.output.Out.{Out}
use Rattle.token_client.specs.declared.output.Out.TheVariants as output
use Rattle.token_client.specs.Held as held
use Rattle.token_client.specs.State.{TokensState, epoch_of, held_of, with_held}
use Rattle.token_client.specs.Transition.{raised, transition}
use Rattle.xfs_base.specs.declared.block.BlockId.{BlockId}
use Rattle.xfs_base.specs.declared.token.Mode.{Mode}
use Rattle.xfs_base.specs.declared.token.Stamp.{Stamp}
use Rattle.xfs_base.specs.Limits.{u32_end}

-- an input that is no grant
abbrev pub NotGranted : In → Type 0
NotGranted (input.Granted block stamp inc req mode entry) = ⊥
NotGranted _ = Unit {0}

-- what is said of a block but that it is to be read
abbrev pub NoRead : Out → Type 0
NoRead (output.Read block place) = ⊥
NoRead _ = Unit {0}

-- what becomes of one block
pub data Changed (h : Held) : Held → Type 0 where
  Supplied : (stamp : Stamp) (ver : ℕ) (value : Option (List ℕ)) → Changed h (held.copy_of h stamp ver value)
  Unfetched : Changed h (held.unfetched h)
  PutOff : (stamp : Stamp) (keep : Bool) → Changed h (held.put_off h stamp keep)
  GivenUp : (stamp : Stamp) (keep : Bool) → Changed h (held.give_up h stamp keep)
  Written : (value : Option (List ℕ)) → Changed h (held.held_write h value)
  Settled : (ver : ℕ) → Changed h (held.version_settled h ver)
  Fetched : (value : Option (List ℕ)) → Changed h (held.end_fetch h h.fetch value)
  LetGo : Changed h (held.let_go h)
  Quit : Changed h (held.quit h)
  AskedAgain : (w : Wanted) → h.want ≡ Some w → Changed h (held.asked_again h w)

-- Any list of such moves of the tokens, oldest first.
pub data TokenMoves : TokensState → TokensState → List Out → Type 0 where
  Keeps : (s : TokensState) → TokenMoves s s []
  Follows : {s t u : TokensState} {o m : List Out} → TokenMoves s t o → TokenMoves t u m → TokenMoves s u (o ++ m)
  Puts : (s : TokensState) (block : BlockId) (h : Held) → Changed (held_of s.blocks block) h → TokenMoves s (with_held s block h) []
  Asks : (s : TokensState) (block : BlockId) (mode : Mode) → nat_lt s.req u32_end ≡ true
      → TokenMoves s (record (with_held s block (held.held_ask (held_of s.blocks block) (s.req + 1) mode)) { req = s.req + 1 })
      (output.Want block (s.req + 1) 0 mode ∷ [])
  Raises : (s : TokensState) (slot epoch : ℕ) → nat_le (epoch_of s.epochs slot) epoch ≡ true → TokenMoves s (raised s slot epoch) []
  Tells : (s : TokensState) (o : Out) → NoRead o → TokenMoves s s (o ∷ [])

-- Each such input is so.
abbrev pub InputsAreMoves : Type 0
InputsAreMoves = (s : TokensState) (i : In) → NotGranted i → TokenMoves s (transition s i).state (transition s i).outs
