-- From what a call of `xfs` tells to what is shown of its run.
use Rattle.std.proofs.Common.{◌≡◌, ℕ, true, false, List, [], ◌∷◌, Option, Some, None, refl, sym, ap, subst, ◌∙◌, inl, inr, ◌⊎◌, arith}
use Rattle.std.specs.Io.KnownBytes.{Appends, Keeps}
use Rattle.board_world.specs.declared.board_event.BoardEvent.{BoardEvent}
use Rattle.core_world.specs.AnyNode.{any_start, any_step}
use Rattle.core_world.specs.declared.any_node.AnyNode.{AnyNode}
use Rattle.disk_shelf.specs.MemDisk.{MemState}
use Rattle.script_text.specs.declared.refusal.Kind.{Kind}
use Rattle.script_text.specs.declared.script.Script.{Script}
use Rattle.script_text.specs.Script.{IsFirstBad, IsScriptOf}
use Rattle.shelved_nodes.specs.AnyShelf.{any_shelf}
use Rattle.top_call.specs.declared.outcome.Outcome.{Outcome}
use Rattle.top_call.specs.Claim as claim
use Rattle.top_call.specs.Claim.{Ends, IsRunBy, Reading, Wanted, Writing}
use Rattle.top_call.specs.Commands.{command_of, is_live}
use Rattle.top_call.specs.Disks.{DisksOf}
use Rattle.top_call.specs.Spoken.{refused_text}
use Rattle.world_base.specs.declared.estate.Estate.{Estate}
use Rattle.node_base.specs.Setups.{IsSetup}
use Rattle.xfs_top.specs.Headline.{HeadlineOf}
use Rattle.picture_call.specs.Asking.{command_by, word_of}
use Rattle.picture_call.specs.declared.asked.Asked.{Asked}
use Rattle.picture_call.specs.declared.asked.Asked.TheVariants.{All, Lines, Boards, Disks}
use Rattle.picture_call.specs.Shown.{Answers, CannotRead, Drawn, Draws, GivesUp, Refused, boards_of, run_of, told_of}

-- the words by which `solo` is called ask it for this, without threads
pub is_command : (asked : Asked) → command_of (word_of asked ∷ []) ≡ Some (command_by asked)
is_command All = refl
is_command (Lines first last) = refl
is_command Boards = refl
is_command Disks = refl

pub is_alone : (asked : Asked) → is_live (Some (command_by asked)) ≡ false
is_alone All = refl
is_alone (Lines first last) = refl
is_alone Boards = refl
is_alone Disks = refl

-- nothing is written where nothing is
pub keeps_same : (o : Option (List ℕ)) → Keeps o o
keeps_same None = tt
keeps_same (Some xs) = refl

abbrev Estates : Type 0
Estates = Option (Estate AnyNode)

no_run : (o : Estates) (e : Estate AnyNode) → o ≡ Some e → o ≡ None → ⊥
no_run o e some none = absurd cc

same_run : (a b : Estate AnyNode) → Some a ≡ Some b → a ≡ b
same_run a b e = cc

-- all these commands read an input
is_read_by : (asked : Asked) (r : Reading) (input : List ℕ) → claim.IsInput (Some (command_by asked)) r input → claim.IsRead true r input
is_read_by All r input read = read
is_read_by (Lines first last) r input read = read
is_read_by Boards r input read = read
is_read_by Disks r input read = read

-- what is wanted of an input: a script, of which a run is told, or a first bad line
abbrev Says : List ℕ → Wanted AnyNode → Type 0
Says input w =
    ((script : Script) × (run : Estate AnyNode) × IsScriptOf false input script × (w.estate ≡ Some run) × (run.script ≡ script))
    ⊎ ((number : ℕ) × (kind : Kind) × IsFirstBad false input number kind × (w ≡ claim.refusal number kind))

abbrev estate_in : Wanted AnyNode → Estates
estate_in w = w.estate

says : (asked : Asked) (input : List ℕ) (w : Wanted AnyNode) → claim.Wants any_step any_start (Some (command_by asked)) input w → Says input w
says All input w (inl (script, of, want)) = inl (script, run_of All script, of, ap estate_in want, refl)
says All input w (inr bad) = inr bad
says (Lines first last) input w (inl (script, of, want)) = inl (script, run_of All script, of, ap estate_in want, refl)
says (Lines first last) input w (inr bad) = inr bad
says Boards input w (inl (script, of, want)) = inl (script, run_of Boards script, of, ap estate_in want, refl)
says Boards input w (inr bad) = inr bad
says Disks input w (inl (script, of, told)) = inl (script, told.run, of, ap estate_in told.answer, told.of_script)
says Disks input w (inr bad) = inr bad

-- a run is the one that its script determines, and so is what is told of nodes and boards
pub is_determined : (asked : Asked) (e : Estate AnyNode) (disks : Option (List MemState)) → IsRunBy any_step any_start (Some (command_by asked)) e
    → DisksOf any_step any_start any_shelf (Some (command_by asked)) (Some e) disks → e ≡ run_of asked e.script
is_determined All e disks run kept = run.exact
is_determined (Lines first last) e disks run kept = run.exact
is_determined Boards e disks run kept = run.determined
is_determined Disks e disks run kept = kept.determined

-- and it has a setup of which a run can be started
pub has_setup : (asked : Asked) (e : Estate AnyNode) → HeadlineOf (Some (command_by asked)) e → IsSetup e.script.setup
has_setup All e h = h.whole.setup
has_setup (Lines first last) e h = h.whole.setup
has_setup Boards e h = h.played.setup
has_setup Disks e h = h.whole.setup

pub are_told : (asked : Asked) (e : Estate AnyNode) (boards : Option (List BoardEvent)) → boards ≡ claim.boards_of any_step any_start (Some (command_by asked)) (Some e)
    → told_of boards ≡ boards_of asked e.script
are_told All e boards is = ap told_of is
are_told (Lines first last) e boards is = ap told_of is
are_told Boards e boards is = ap told_of is
are_told Disks e boards is = ap told_of is

module _ (asked : Asked) (r : Reading) (told : Writing) (o : Outcome AnyNode) (s : Writing) (status : ℕ) where
  abbrev Ended : Type 0
  Ended = Answers asked r s status ⊎ (GivesUp s status ⊎ CannotRead r s status)

  -- where there is a run, it is that of the script that was read, and its picture is what is wanted
  module _ (e : Estate AnyNode) (is : o.estate ≡ Some e) (run : e ≡ run_of asked e.script) (boards : told_of o.boards ≡ boards_of asked e.script) where
    of_script : (input : List ℕ) → claim.IsInput (Some (command_by asked)) r input → (w : Wanted AnyNode) → Says input w → o.estate ≡ w.estate
        → Drawn asked e (told_of o.boards) s status → Ended
    of_script input read w wants same (inr gives) = inr (inl gives)
    of_script input read w (inl (script, its, of, want, of_it)) same (inl (text, wanted, draws, written)) =
        let script_is : e.script ≡ script = ap (λ (x : Estate AnyNode). x.script) (same_run e its (sym is ∙ same ∙ want)) ∙ of_it in
        let runs : e ≡ run_of asked script = run ∙ ap (run_of asked) script_is in
        let events : told_of o.boards ≡ boards_of asked script = boards ∙ ap (boards_of asked) script_is in
        inl (record {
          input = input;
          is_read = is_read_by asked r input read;
          text = text;
          wanted = wanted;
          wants = inl (script, of, subst (λ x. Draws asked (run_of asked script) x text wanted) events (subst (λ x. Draws asked x (told_of o.boards) text wanted) runs draws));
          written = written;
        })
    of_script input read w (inr (number, kind, bad, want)) same (inl drawn) = absurd (no_run o.estate e is (same ∙ ap estate_in want))

    pub shown : Ends any_step any_start (Some (command_by asked)) r told o → Drawn asked e (told_of o.boards) s status → Ended
    shown (inl (input, read, a)) drawn = of_script input read a.wanted (says asked input a.wanted a.wants) a.told.0 drawn
    shown (inr (inl gives)) drawn = absurd (no_run o.estate e is gives.1)
    shown (inr (inr (reads, cannot))) drawn = absurd (no_run o.estate e is cannot.1)

  -- where there is none, it was refused, a read failed or memory was wanting
  module _ (text : List ℕ) (none : o.estate ≡ None) (before : told.before ≡ Some []) (after : told.after ≡ Some text) (t : Refused o.status text s status) where
    appended : (bytes : List ℕ) → Appends told.before told.after bytes → text ≡ bytes
    appended bytes a = subst (λ now. Appends (Some []) now bytes) after (subst (λ old. Appends old told.after bytes) before a)

    of_line : (input : List ℕ) → claim.IsInput (Some (command_by asked)) r input → (w : Wanted AnyNode) → Says input w → claim.Tells told o w → Ended
    of_line input read w (inl (script, its, of, want, of_it)) tells = absurd (no_run o.estate its (tells.0 ∙ want) none)
    of_line input read w (inr (number, kind, bad, want)) (same, inl whole) =
        let three : o.status ≡ 3 = whole.0 ∙ ap (λ (x : Wanted AnyNode). x.status) want in
        let line : text ≡ refused_text number kind = appended w.text whole.1 ∙ ap (λ (x : Wanted AnyNode). x.text) want in
        inl (record {
          input = input;
          is_read = is_read_by asked r input read;
          text = text;
          wanted = 3;
          wants = inr (number, kind, bad, line, refl);
          written = t.refusal three;
        })
    of_line input read w (inr (number, kind, bad, want)) (same, inr cut) =
        let five : o.status ≡ 5 = cut.0 in
        inr (inl (t.others (λ three. omega arith) (λ four. omega arith)))

    pub refused : Ends any_step any_start (Some (command_by asked)) r told o → Ended
    refused (inl (input, read, a)) = of_line input read a.wanted (says asked input a.wanted a.wants) a.told
    refused (inr (inl gives)) =
        let seven : o.status ≡ 7 = gives.0 in
        inr (inl (t.others (λ three. omega arith) (λ four. omega arith)))
    refused (inr (inr (reads, cannot))) =
        let kept = t.unread cannot.0 in
        inr (inr (kept.0, kept.1, cannot.3))
