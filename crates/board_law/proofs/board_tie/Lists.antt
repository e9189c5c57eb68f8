-- Commands in lists: what the machine's tests say, in the words of the protocol.
use Rattle.std.proofs.Common.{◌≡◌, ℕ, suc, ◌<◌, Bool, true, false, not, List, [], ◌∷◌, ◌++◌, take, length, Some, None, refl, sym, ap, ◌∙◌, subst, inl, inr, if◌then◌else◌, ◌||◌}
use Rattle.std.specs.Prelude.{slice_get}
use Rattle.std.proofs.Math.Seq.{take-suc}
use Rattle.std.proofs.lemmas.Option.{slice_get_within, get_or_from_slice_get}
use Rattle.xfs_base.proofs.Booleans.{contrary, or_first, or_second}
use Rattle.board_protocol.specs.Basics.{In, Without}
use Rattle.board_protocol.specs.Basics.Without.{Ends, Goes, Stays}
use Rattle.board.specs.declared.command.Command.{Command}
use Rattle.board.specs.Comparing.{same_command}
use Rattle.board.specs.Waiting.{is_in, first_outside, without}
use Rattle.board.proofs.WholeCommands.{command_is, command_itself}

-- A command that passes the test is in the list.
first_or_rest : (c d : Command) (ds : List Command) → (is_in c ds ≡ true → In c ds) → (t : Bool) → same_command c d ≡ t → (t || is_in c ds) ≡ true → In c (d ∷ ds)
first_or_rest c d ds rest true same e = inl (command_is c d same)
first_or_rest c d ds rest false same e = inr (rest e)

pub found : (c : Command) (list : List Command) → is_in c list ≡ true → In c list
found c [] e = contrary e
found c (d ∷ ds) e = first_or_rest c d ds (found c ds) (same_command c d) refl e

-- One that is in the list passes it.
finds : (c : Command) (list : List Command) → In c list → is_in c list ≡ true
finds c [] l = absurd l
finds c (d ∷ ds) (inl e) = or_first (same_command c d) (is_in c ds) (subst (λ x. same_command c x ≡ true) e (command_itself c))
finds c (d ∷ ds) (inr l) = or_second (same_command c d) (is_in c ds) (finds c ds l)

pub missing : (c : Command) (list : List Command) → is_in c list ≡ false → In c list → ⊥
missing c list e l = contrary (sym e ∙ finds c list l)

-- The first command outside a list waits, and is not in the list.
pub record Outside (list commands : List Command) (c : Command) : Type 0 where
  pub waits : In c commands
  pub new : In c list → ⊥

nothing_is_something : {X : Type 0} (c : Command) → None ≡ Some c → X
nothing_is_something c e = cc

something_is : (c d : Command) → Some c ≡ Some d → c ≡ d
something_is c d e = cc

first_or_later : (list ds : List Command) (c d : Command) → (first_outside list ds ≡ Some c → Outside list ds c) → (t : Bool) → is_in d list ≡ t
    → (if t then first_outside list ds else Some d) ≡ Some c → Outside list (d ∷ ds) c
first_or_later list ds c d later true there e = let o = later e in record { waits = inr o.waits; new = o.new }
first_or_later list ds c d later false there e =
    let same = something_is d c e in
    record { waits = inl (sym same); new = subst (λ x. In x list → ⊥) same (missing d list there) }

pub outside : (list commands : List Command) (c : Command) → first_outside list commands ≡ Some c → Outside list commands c
outside list [] c e = nothing_is_something c e
outside list (d ∷ ds) c e = first_or_later list ds c d (outside list ds c) (is_in d list) refl e

-- What leaves waiting is what is in the list.
goes_or_stays : (list cs : List Command) (c : Command) → Without list cs (without list cs) → (t : Bool) → is_in c list ≡ t
    → Without list (c ∷ cs) (if not t then c ∷ without list cs else without list cs)
goes_or_stays list cs c rest true there = Goes (found c list there) rest
goes_or_stays list cs c rest false there = Stays (missing c list there) rest

pub leaves : (list commands : List Command) → Without list commands (without list commands)
leaves list [] = Ends
leaves list (c ∷ cs) = goes_or_stays list cs c (leaves list cs) (is_in c list) refl

-- The command after the first n of a list.
pub next_of : (list : List Command) (n : ℕ) (c : Command) → slice_get list n ≡ Some c → take (suc n) list ≡ take n list ++ (c ∷ [])
next_of list n c e =
    take-suc list n c (slice_get_within list n c e) ∙ ap (λ d. take n list ++ (d ∷ [])) (get_or_from_slice_get list n c c e)

pub behind : (list : List Command) (n : ℕ) (c : Command) → slice_get list n ≡ Some c → n < length list
behind list n c e = slice_get_within list n c e
