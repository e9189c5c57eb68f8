-- From what the parts of a call tell to the claim of the whole.
use Rattle.std.proofs.Common.{◌≡◌, ◌≤◌, ℕ, Bool, true, false, ◌||◌, nat_lt, ◌==◌, List, [], Option, Some, None, refl, sym, ap, ◌∙◌, inl, inr, subst, arith}
use Rattle.std.specs.Prelude.{IfSome}
use Rattle.std.proofs.lemmas.Bool.Decides.{nat_tests}
use Rattle.std.specs.Io.KnownBytes.{Consumes, Keeps}
use Rattle.board_law.specs.OneRun.{HasRegistry}
use Rattle.board_play.specs.declared.estate.BoardEstate.{BoardEstate}
use Rattle.board_play.specs.Played.{IsBoardPlayed}
use Rattle.board_play.specs.Plays.{estate_of as board_estate_of}
use Rattle.board_world.specs.declared.board_event.BoardEvent.{BoardEvent}
use Rattle.disk_play.specs.Courses.{disk_estate_of, disks_of}
use Rattle.disk_play.specs.Disks.{OnDisk}
use Rattle.disk_play.specs.Standing.{DisksStand}
use Rattle.disk_shelf.specs.MemDisk.{MemState, disk_bytes}
use Rattle.disk_shelf.specs.Records.{DiskState, StandsFor}
use Rattle.fragment_store.specs.ShelfState.{ShelfState}
use Rattle.live_run.specs.Live.{IsLive}
use Rattle.mounts.specs.declared.reply.Reply.{Reply}
use Rattle.mounts.specs.Mounted.{IsMounted}
use Rattle.play.specs.Plays.{actors_of, estate_of}
use Rattle.node_base.specs.Setups.{IsSetup}
use Rattle.script_print.specs.Printing.{IsScript}
use Rattle.script_text.specs.declared.refusal.Kind.{Kind}
use Rattle.script_text.specs.declared.script.Script.{Script}
use Rattle.script_text.specs.Script.{IsFirstBad, IsScriptOf}
use Rattle.transcript.specs.Replies.{open_items}
use Rattle.transcript.specs.Text.{text_of}
use Rattle.version_model.specs.declared.work.Work.{Work}
use Rattle.wire_msg.specs.declared.packet.Do.{Do}
use Rattle.wire_msg.specs.NodeStep.{NodeStep}
use Rattle.world_base.specs.declared.estate.Estate.{Estate}
use Rattle.world_base.specs.Runs.{BeginsAll, IsRun, begun_in}
use Rattle.xfs_base.specs.declared.node.NodeId.{NodeId}
use Rattle.xfs_base.specs.declared.setup.Setup.{Setup}
use Rattle.top_call.specs.declared.command.Command.{Command}
use Rattle.top_call.specs.declared.command.Command.TheVariants.{Disks}
use Rattle.top_call.specs.declared.outcome.Outcome.{Outcome}
use Rattle.top_call.specs.declared.unread.Unread.{Unread}
use Rattle.top_call.specs.declared.unread.Unread.TheVariants.{Failed, Memory, Bad}
use Rattle.top_call.specs.Commands.{reads}
use Rattle.top_call.specs.Claim.{AnswersLive, Wanted, Writing, Reading, reading, writing, line, refusal, run_answer, IsRead, IsInput, Tells, GivesUp, TellsOrGivesUp, Wants, AnswersOrGivesUp, Ends, IsPlayed, IsPlayedWithBoards, IsLiveRun, is_full, IsPlayedWithDisks, IsRunBy, TellsDisks, TellsLive, ReadsAtMost, boards_in, boards_of, Claim}
use Rattle.top_call.specs.Disks.{DisksGive, DisksIn, LeavesDisks}
use Rattle.top_call.specs.Input.{limit}
use Rattle.top_call.specs.Mounts.{LeavesMounts, MountsIn}
use Rattle.top_call.specs.Spoken.{usage_text}
use Rattle.top_call.specs.Told.{boards_where, disks_where, lists_where}
use Rattle.top_call.specs.Unread.{IsScriptRead, IsWhy, TellsWhy}
use Rattle.top_call.proofs.Answered.{all_answered}

zero_is : (n : ℕ) → n ≡ 0 → (n == 0) ≡ true
zero_is n is = rw is refl

not_zero : (n : ℕ) → nat_lt 0 n ≡ true → (n == 0) ≡ false
not_zero n some = grind (arith, nat_tests)

-- known bytes stay as they are where nothing is written
keeps_same : (o : Option (List ℕ)) → Keeps o o
keeps_same None = tt
keeps_same (Some xs) = refl

-- nothing was read
consumes_nothing : (o : Option (List ℕ)) → Consumes o o []
consumes_nothing None = tt
consumes_nothing (Some xs) = refl

-- an outcome without a run ends in want of memory, with nothing written
pub gives_up : {N K : Type 0} (written : K → Option (List ℕ)) (faults : K → ℕ) (sink : K) (o : Outcome N) → o ≡ record { status = 7; estate = None; boards = None; disks = None; calls = None; replies = None }
    → GivesUp (writing written faults sink sink) o
gives_up written faults sink o e = (ap (λ x. x.status) e, ap (λ x. x.estate) e, keeps_same (written sink))

-- or since a read failed
pub cannot_read : {N K : Type 0} (written : K → Option (List ℕ)) (faults : K → ℕ) (sink : K) (o : Outcome N)
    → o ≡ record { status = 4; estate = None; boards = None; disks = None; calls = None; replies = None } → TellsWhy (writing written faults sink sink) o Failed
cannot_read written faults sink o e = (ap (λ x. x.status) e, ap (λ x. x.estate) e, keeps_same (written sink))

-- a text that equals the wanted one is told
pub line_told : {N : Type 0} (s : Writing) (o : Outcome N) (text wanted : List ℕ) (status : ℕ) → text ≡ wanted → Tells s o (line text status)
    → Tells s o (line wanted status)
line_told s o text wanted status e h = subst (λ x. Tells s o (line x status)) e h

pub run_told : {N : Type 0} (s : Writing) (o : Outcome N) (text wanted : List ℕ) (e : Estate N) → text ≡ wanted → Tells s o (run_answer text e)
    → Tells s o (run_answer wanted e)
run_told s o text wanted e k h = subst (λ x. Tells s o (run_answer x e)) k h

-- what follows of each run holds of the one that is left, if one is
pub each_left : {X : Type 0} (P Q : X → Type 0) → ((x : X) → P x → Q x) → (o : Option X) → IfSome o P → IfSome o Q
each_left P Q follows None h = tt
each_left P Q follows (Some x) h = follows x h

-- an image stands for one state at most, so the disks give what they stand for
pub disks_give : ((s t : DiskState) (image : List ℕ) → StandsFor s image → StandsFor t image → s ≡ t) → {N : Type 0} (shelf_of : N → Option ShelfState)
    (e : Estate N) (told : List OnDisk) (disks : List MemState) → DisksStand shelf_of e told disks → DisksGive shelf_of e told disks
disks_give one shelf_of e told disks h = record {
  count = h.count;
  did = h.did;
  each = λ place disk is.
      let at = h.each place disk is in
      record {
        kept = at.kept;
        told_of = at.told_of;
        stands = at.stands;
        only = λ s other. one s at.kept.state (disk_bytes disk) other at.stands;
        shelf = at.shelf;
      };
}

module _ {N : Type 0} (step : N → Do → NodeStep N) (first : NodeId → Setup → List Work → N) where
  -- the run that a script determines was played
  pub is_played : (script : Script) (e : Estate N) → IsScript script → IsSetup script.setup → e ≡ estate_of step first script
      → IsRun step first script e.events e.world → begun_in e.events ≡ actors_of script.lines → BeginsAll script.lines e.events → IsPlayed step first e
  is_played script e accepted setup k run order all =
      let same : script ≡ e.script = sym (ap (λ (x : Estate N). x.script) k) in
      record {
        whole = record {
          setup = subst (λ (x : Script). IsSetup x.setup) same setup;
          one_run = subst (λ x. IsRun step first x e.events e.world) same run;
          complete = subst (λ (x : Script). BeginsAll x.lines e.events) same all;
        };
        in_order = subst (λ (x : Script). begun_in e.events ≡ actors_of x.lines) same order;
        accepted = subst IsScript same accepted;
        exact = subst (λ x. e ≡ estate_of step first x) same k;
      }

  pub some_played : (o : Option (Estate N)) (e : Estate N) → IfSome o (λ x. x ≡ e) → IsPlayed step first e → IfSome o (λ x. IsPlayed step first x)
  some_played None e k h = tt
  some_played (Some x) e k h = subst (λ y. IsPlayed step first y) (sym k) h

  pub none_played : (o : Option (Estate N)) → o ≡ None → IfSome o (λ x. IsPlayed step first x)
  none_played o k = subst (λ y. IfSome y (λ x. IsPlayed step first x)) (sym k) tt

  -- with boards
  pub some_boarded : (script : Script) (e : BoardEstate N) (o : Option (Estate N)) → IfSome o (λ x. x ≡ e.estate) → e ≡ board_estate_of step first script
      → (HasRegistry step first → IsBoardPlayed step first e) → IfSome o (λ x. IsPlayedWithBoards step first x)
  some_boarded script e None k is h = tt
  some_boarded script e (Some x) k is h =
      let same : x ≡ (board_estate_of step first script).estate = k ∙ ap (λ (b : BoardEstate N). b.estate) is in
      subst (λ y. IsPlayedWithBoards step first y) (sym same)
      (record { determined = refl; played = λ has. subst (λ b. IsBoardPlayed step first b) is (h has) })

  pub some_told : (script : Script) (e : BoardEstate N) (o : Option (Estate N)) (boards : Option (List BoardEvent)) → IfSome o (λ x. x ≡ e.estate)
      → e ≡ board_estate_of step first script → boards ≡ boards_where o e.events → boards ≡ boards_in step first o
  some_told script e None boards k is h = h
  some_told script e (Some x) boards k is h =
      let same : x ≡ (board_estate_of step first script).estate = k ∙ ap (λ (b : BoardEstate N). b.estate) is in
      h ∙ ap (λ (b : BoardEstate N). Some b.events) is ∙ ap (λ (y : Estate N). Some (board_estate_of step first y.script).events) (sym same)

  -- with servers that stop, the run that a script determines was played
  pub is_played_with_disks : (script : Script) (e : Estate N) → IsScript script → IsSetup script.setup → e.script ≡ script
      → IsRun step first script e.events e.world → begun_in e.events ≡ actors_of script.lines → BeginsAll script.lines e.events
      → IsPlayedWithDisks step first e
  is_played_with_disks script e accepted setup of run order all =
      let same : script ≡ e.script = sym of in
      record {
        whole = record {
          setup = subst (λ (x : Script). IsSetup x.setup) same setup;
          one_run = subst (λ x. IsRun step first x e.events e.world) same run;
          complete = subst (λ (x : Script). BeginsAll x.lines e.events) same all;
        };
        in_order = subst (λ (x : Script). begun_in e.events ≡ actors_of x.lines) same order;
        accepted = subst IsScript same accepted;
      }

  pub some_stopped : (o : Option (Estate N)) (e : Estate N) → IfSome o (λ x. x ≡ e) → IsPlayedWithDisks step first e
      → IfSome o (λ x. IsPlayedWithDisks step first x)
  some_stopped None e k h = tt
  some_stopped (Some x) e k h = subst (λ y. IsPlayedWithDisks step first y) (sym k) h

  -- and its disks are handed out
  module _ (shelf_of : N → Option ShelfState) where
    pub some_disks : (o : Option (Estate N)) (e : Estate N) (disks : List MemState) (told : Option (List MemState)) → IfSome o (λ x. x ≡ e)
        → told ≡ disks_where o disks → e ≡ disk_estate_of step shelf_of first e.script
        → DisksGive shelf_of e (disks_of step shelf_of first e.script) disks → DisksIn step first shelf_of o told
    some_disks None e disks told k are is give = are
    some_disks (Some x) e disks told k are is give =
        subst (λ y. LeavesDisks step first shelf_of y told) (sym k) (record { determined = is; disks = disks; are = are; give = give })

    pub no_disks : (o : Option (Estate N)) (told : Option (List MemState)) → o ≡ None → told ≡ None → DisksIn step first shelf_of o told
    no_disks o told k none = subst (λ y. DisksIn step first shelf_of y told) (sym k) none

  -- the text of such a run is told
  pub disks_told : (script : Script) (s : Writing) (o : Outcome N) (e : Estate N) → e.script ≡ script → IsPlayedWithDisks step first e
      → TellsOrGivesUp s o (run_answer (text_of e) e) → TellsDisks step first script s o
  disks_told script s o e of played (inl t) = inl (run_answer (text_of e) e, record { run = e; of_script = of; played = played; answer = refl }, t)
  disks_told script s o e of played (inr g) = inr g

  pub disks_answers : (input : List ℕ) (script : Script) (s : Writing) (o : Outcome N) → IsScriptOf false input script → TellsDisks step first script s o
      → AnswersOrGivesUp step first (Some Disks) input s o
  disks_answers input script s o of (inl (w, a, t)) = inl (record { wanted = w; wants = inl (script, of, a); told = t })
  disks_answers input script s o of (inr g) = inr g

  -- a run by workers is full just where no item of it is open
  pub full_is : (full : Bool) (left : ℕ) (agrees : Bool) (e : Estate N) → agrees ≡ (full || nat_lt 0 left) → agrees ≡ true → left ≡ open_items e → IsLive step first full e
      → full ≡ is_full e
  full_is true left agrees e is so count live = sym (zero_is (open_items e) (all_answered e.script.lines e.world.acts live.ends.answered))
  full_is false left agrees e is so count live = sym (not_zero (open_items e) (sym (ap (nat_lt 0) count) ∙ sym is ∙ so))

  -- a run by workers was made
  pub some_lived : (o : Option (Estate N)) (e : Estate N) → IfSome o (λ x. x ≡ e) → IsLiveRun step first e → IfSome o (λ x. IsLiveRun step first x)
  some_lived None e k h = tt
  some_lived (Some x) e k h = subst (λ y. IsLiveRun step first y) (sym k) h

  -- the text of such a run is told
  pub live_told : (script : Script) (s : Writing) (o : Outcome N) (e : Estate N) → e.script ≡ script → IsLiveRun step first e
      → TellsOrGivesUp s o (run_answer (text_of e) e) → TellsLive step first script s o
  live_told script s o e is live (inl t) =
      inl (run_answer (text_of e) e, record { run = e; of_script = is; live = live; answer = refl }, t)
  live_told script s o e is live (inr g) = inr g

  -- with an application for each client
  pub some_mounted : (o : Option (Estate N)) (e : Estate N) (calls : List (List ℕ)) (replies : List (List Reply)) (called : Option (List (List ℕ))) (replied : Option (List (List Reply)))
      → IfSome o (λ x. x ≡ e) → called ≡ lists_where o calls → replied ≡ lists_where o replies → IsMounted step first (is_full e) e calls replies → MountsIn step first o called replied
  some_mounted None e calls replies called replied k are is m = (are, is)
  some_mounted (Some x) e calls replies called replied k are is m =
      subst (λ y. LeavesMounts step first y called replied) (sym k) (record { calls = calls; replies = replies; calls_are = are; replies_are = is; mounted = m })

  pub none_mounted : (o : Option (Estate N)) (called : Option (List (List ℕ))) (replied : Option (List (List Reply))) → o ≡ None → called ≡ None → replied ≡ None
      → MountsIn step first o called replied
  none_mounted o called replied k none nothing = subst (λ y. MountsIn step first y called replied) (sym k) (none, nothing)

  -- what is wanted of an input is told, or memory is wanting
  pub answers : (command : Option Command) (input : List ℕ) (s : Writing) (o : Outcome N) (w : Wanted N) → Wants step first command input w
      → TellsOrGivesUp s o w → AnswersOrGivesUp step first command input s o
  answers command input s o w h (inl t) = inl (record { wanted = w; wants = h; told = t })
  answers command input s o w h (inr g) = inr g

  pub ends_of : (command : Option Command) (r : Reading) (s : Writing) (o : Outcome N) (input : List ℕ) → IsInput command r input
      → AnswersOrGivesUp step first command input s o → Ends step first command r s o
  ends_of command r s o input i (inl a) = inl (input, i, a)
  ends_of command r s o input i (inr g) = inr (inl g)

  -- the claim of a command that ends so
  pub claims_ended : (command : Command) (r : Reading) (s : Writing) (o : Outcome N) → Ends step first (Some command) r s o
      → IfSome o.estate (IsRunBy step first (Some command))
      → o.boards ≡ boards_of step first (Some command) o.estate
      → ReadsAtMost r limit → r.faults ≤ r.faults_after → s.faults ≤ s.faults_after
      → Claim step first (Some command) r s o
  claims_ended command r s o ends run boards bounded read_later later = record {
    usage = λ h. cc;
    ends = ends;
    run = run;
    boards = boards;
    bounded = bounded;
    later = (read_later, later);
  }

  -- and of one that answers what it read
  pub claims_read : (command : Command) (r : Reading) (s : Writing) (o : Outcome N) (input : List ℕ) → IsInput (Some command) r input
      → AnswersOrGivesUp step first (Some command) input s o
      → IfSome o.estate (IsRunBy step first (Some command))
      → o.boards ≡ boards_of step first (Some command) o.estate
      → ReadsAtMost r limit → r.faults ≤ r.faults_after → s.faults ≤ s.faults_after
      → Claim step first (Some command) r s o
  claims_read command r s o input i told = claims_ended command r s o (ends_of (Some command) r s o input i told)

  -- of one that leaves no run
  pub claims_without_run : (command : Command) → boards_of step first (Some command) None ≡ None → (r : Reading) (s : Writing) (o : Outcome N)
      → Ends step first (Some command) r s o → o.estate ≡ None → o.boards ≡ None
      → ReadsAtMost r limit → r.faults ≤ r.faults_after → s.faults ≤ s.faults_after
      → Claim step first (Some command) r s o
  claims_without_run command no_boards r s o ends none boards =
      claims_ended command r s o ends (subst (λ y. IfSome y (IsRunBy step first (Some command))) (sym none) tt)
      (boards ∙ sym no_boards ∙ ap (boards_of step first (Some command)) (sym none))

  -- of one that plays no script of its input
  module _ (command : Command) (live : Bool) (is : reads (Some command) ≡ true)
      (wants : (input : List ℕ) (number : ℕ) (kind : Kind) → IsFirstBad live input number kind → Wants step first (Some command) input (refusal number kind))
      (r : Reading) (s : Writing) (o : Outcome N) where
    ends_unread : (why : Unread) → IsWhy live r why → TellsWhy s o why → Ends step first (Some command) r s o
    ends_unread Failed rose t = inr (inr (is, (t.0, t.1, t.2, rose)))
    ends_unread Memory h t = inr (inl t)
    ends_unread (Bad number kind) (input, read, bad) t =
        ends_of (Some command) r s o input (subst (λ b. IsRead b r input) (sym is) read)
        (answers (Some command) input s o (refusal number kind) (wants input number kind bad) t)

    pub claims_unread_input : boards_of step first (Some command) None ≡ None → (why : Unread) → IsWhy live r why → TellsWhy s o why
        → o.estate ≡ None → o.boards ≡ None → ReadsAtMost r limit → r.faults ≤ r.faults_after → s.faults ≤ s.faults_after
        → Claim step first (Some command) r s o
    claims_unread_input no_boards why h t = claims_without_run command no_boards r s o (ends_unread why h t)

  -- of one that asks for a run by workers
  module _ (command : Command) (is : reads (Some command) ≡ true) (no_boards : boards_of step first (Some command) None ≡ None)
      (asks : (input : List ℕ) (w : Wanted N) → AnswersLive step first input w → Wants step first (Some command) input w)
      (runs : (e : Estate N) → IsLiveRun step first e → IsRunBy step first (Some command) e) (r : Reading) (s : Writing) (o : Outcome N) where
    live_answers : (input : List ℕ) (script : Script) → IsScriptOf true input script → TellsLive step first script s o
        → AnswersOrGivesUp step first (Some command) input s o
    live_answers input script of (inl (w, a, t)) = inl (record { wanted = w; wants = asks input w (inl (script, of, a)); told = t })
    live_answers input script of (inr g) = inr g

    -- its input spells a script
    pub claims_lived : (script : Script) → IsScriptRead true r script → TellsLive step first script s o → IfSome o.estate (λ x. IsLiveRun step first x)
        → o.boards ≡ boards_of step first (Some command) o.estate → ReadsAtMost r limit → r.faults ≤ r.faults_after → s.faults ≤ s.faults_after
        → Claim step first (Some command) r s o
    claims_lived script (input, read, of) told lived =
        claims_read command r s o input (subst (λ b. IsRead b r input) (sym is) read) (live_answers input script of told)
        (each_left (λ x. IsLiveRun step first x) (IsRunBy step first (Some command)) runs o.estate lived)

    -- or none
    pub claims_not_lived : (why : Unread) → IsWhy true r why → TellsWhy s o why
        → o.estate ≡ None → o.boards ≡ None → ReadsAtMost r limit → r.faults ≤ r.faults_after → s.faults ≤ s.faults_after
        → Claim step first (Some command) r s o
    claims_not_lived =
        claims_unread_input command true is (λ input number kind bad. asks input (refusal number kind) (inr (number, kind, bad, refl))) r s o no_boards

  -- a command that reads nothing leaves the source as it is
  pub claims_unread : {S : Type 0} (left : S → Option (List ℕ)) (faults : S → ℕ) (source : S) (command : Option Command) (s : Writing) (o : Outcome N)
      → reads command ≡ false
      → (command ≡ None → Tells s o (line usage_text 2))
      → AnswersOrGivesUp step first command [] s o
      → IfSome o.estate (IsRunBy step first command)
      → o.boards ≡ boards_of step first command o.estate
      → s.faults ≤ s.faults_after
      → Claim step first command (reading left faults source source) s o
  claims_unread left faults source command s o none usage told run boards later =
      let r : Reading = reading left faults source source in
      let nothing : IsInput command r [] = subst (λ b. IsRead b r []) (sym none) refl in
      record {
        usage = usage;
        ends = ends_of command r s o [] nothing told;
        run = run;
        boards = boards;
        bounded = ([], omega arith, consumes_nothing (left source));
        later = (omega arith, later);
      }
