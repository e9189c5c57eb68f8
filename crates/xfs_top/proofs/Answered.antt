-- The run of a call is answered within bounds where its script is quiet: it is the one that a script determines which some text spells.
use Rattle.std.proofs.Common.{◌≡◌, Bool, true, not, ◌&&◌, List, ◌∷◌, [], Option, Some, None, refl, subst, sym, ap, ◌∙◌}
use Rattle.std.proofs.lemmas.Bool.{and_parts}
use Rattle.std.specs.List.{list_all}
use Rattle.std.specs.Prelude.{IfSome}
use Rattle.core_world.specs.AnyNode.{any_start, any_step}
use Rattle.core_world.specs.declared.any_node.AnyNode.{AnyNode}
use Rattle.disk_play.specs.Courses.{disk_estate_of}
use Rattle.disk_play.specs.Unstopped.{StopsNone, UnstoppedIsPlayed, is_stop}
use Rattle.disk_shelf.specs.MemDisk.{MemState}
use Rattle.quiet_run.specs.Runs.{QuietScriptsAreAnswered}
use Rattle.quiet_script.proofs.QuietWorks.{each_quiet}
use Rattle.quiet_script.specs.Laws.{AcceptedIsOrderly}
use Rattle.headline.specs.Bounds.{AnswersWithinBounds, QuietIsAnswered, is_quiet}
use Rattle.script_text.specs.declared.script.Line.{Line}
use Rattle.shelved_nodes.specs.AnyShelf.{any_shelf}
use Rattle.top_call.specs.declared.command.Command.{Command}
use Rattle.top_call.specs.declared.command.Command.TheVariants.{Audit, Big, Boards, Disks, Gen, Live, Mount, Run}
use Rattle.top_call.specs.Claim.{IsPlayed, IsPlayedWithDisks, IsRunBy}
use Rattle.top_call.specs.Disks.{DisksOf}
use Rattle.version_model.specs.declared.work.Work.{Work}
use Rattle.world_base.specs.declared.estate.Estate.{Estate}
use Rattle.xfs_top.specs.Bounds.{BoundsOf}

-- ---- by `disks` the run is the one that its script determines

abbrev pub IsDetermined : Option Command → Estate AnyNode → Type 0
IsDetermined (Some Disks) e = e ≡ disk_estate_of any_step any_shelf any_start e.script
IsDetermined command e = Unit {0}

pub disks_determine : (command : Option Command) (o : Option (Estate AnyNode)) (told : Option (List MemState)) → DisksOf any_step any_start any_shelf command o told
    → IfSome o (IsDetermined command)
disks_determine command None told disks = tt
disks_determine (Some Disks) (Some e) told disks = disks.determined
disks_determine None (Some e) told disks = tt
disks_determine (Some Run) (Some e) told disks = tt
disks_determine (Some (Live workers)) (Some e) told disks = tt
disks_determine (Some (Mount workers)) (Some e) told disks = tt
disks_determine (Some (Gen drawn)) (Some e) told disks = tt
disks_determine (Some (Big drawn)) (Some e) told disks = tt
disks_determine (Some Audit) (Some e) told disks = tt
disks_determine (Some Boards) (Some e) told disks = tt

-- what is so of each quiet work is so of each line of a quiet script
pub each_line : (p : Work → Bool) → ((w : Work) → is_quiet w ≡ true → p w ≡ true) → (lines : List Line) → list_all (λ (line : Line). is_quiet line.work) lines ≡ true
    → list_all (λ (line : Line). p line.work) lines ≡ true
each_line p so [] quiet = refl
each_line p so (l ∷ lines) quiet =
    let both = and_parts (is_quiet l.work) _ quiet in
    both_true (p l.work) (list_all (λ (line : Line). p line.work) lines) (so l.work both.0) (each_line p so lines both.1)
  where
    both_true : (s t : Bool) → s ≡ true → t ≡ true → (s && t) ≡ true
    both_true s t one two = ap (λ x. x && t) one ∙ two

-- by a quiet script no server stops
quiet_stops_none : (lines : List Line) → list_all (λ (line : Line). is_quiet line.work) lines ≡ true → StopsNone lines
quiet_stops_none lines quiet =
    each_line (λ w. not (is_stop w)) (each_quiet (λ w. not (is_stop w) ≡ true) (λ c b value. refl) (λ c b. refl) (λ c. refl)) lines quiet

module _ (orderly : AcceptedIsOrderly) (law : QuietScriptsAreAnswered) (plainly : UnstoppedIsPlayed AnyNode) where
  pub played : (e : Estate AnyNode) → IsPlayed any_step any_start e → QuietIsAnswered any_step any_start e
  played e p quiet =
      subst (λ (x : Estate AnyNode). AnswersWithinBounds any_step any_start x) (sym p.exact)
      (law e.script (orderly e.script p.whole.setup p.accepted quiet) quiet)

  pub on_disks : (e : Estate AnyNode) → IsPlayedWithDisks any_step any_start e → IsDetermined (Some Disks) e → QuietIsAnswered any_step any_start e
  on_disks e p determined quiet =
      subst (λ (x : Estate AnyNode). AnswersWithinBounds any_step any_start x)
      (sym (determined ∙ plainly any_step any_shelf any_start e.script (quiet_stops_none e.script.lines quiet)))
      (law e.script (orderly e.script p.whole.setup p.accepted quiet) quiet)

  bounds : (command : Option Command) (e : Estate AnyNode) → IsRunBy any_step any_start command e → IsDetermined command e → BoundsOf command e
  bounds None e p is = played e p
  bounds (Some Run) e p is = played e p
  bounds (Some (Live workers)) e p is = tt
  bounds (Some (Mount workers)) e p is = tt
  bounds (Some (Gen drawn)) e p is = played e p
  bounds (Some (Big drawn)) e p is = played e p
  bounds (Some Audit) e p is = played e p
  bounds (Some Boards) e p is = tt
  bounds (Some Disks) e p is = on_disks e p is

  pub played_within : (command : Option Command) (o : Option (Estate AnyNode)) → IfSome o (IsRunBy any_step any_start command) → IfSome o (IsDetermined command)
      → IfSome o (BoundsOf command)
  played_within command None run is = tt
  played_within command (Some e) run is = bounds command e run is
