-- What a call of the program answers: the one claim of the top call.
use Rattle.std.specs.Prelude.{◌≡◌, ◌⊎◌, ◌≤◌, ℕ, ◌==◌, Bool, true, false, IsTrue, IfSome, List, [], length, Option, Some, None, Err, if◌then◌else◌}
use Rattle.std.specs.Io.KnownBytes.{Appends, Consumes, Keeps}
use Rattle.audit.specs.Journal.{IsAudited, read_journal}
use Rattle.board_law.specs.OneRun.{HasRegistry}
use Rattle.board_play.specs.Played.{IsBoardPlayed}
use Rattle.board_play.specs.Plays.{estate_of as board_estate_of}
use Rattle.board_world.specs.declared.board_event.BoardEvent.{BoardEvent}
use Rattle.live_run.specs.Live.{IsLive}
use Rattle.play.specs.Plays.{actors_of, estate_of}
use Rattle.script_print.specs.Generator.{generated}
use Rattle.script_print.specs.Printing.{IsScript, printed}
use Rattle.script_text.specs.declared.refusal.Kind.{Kind}
use Rattle.script_text.specs.declared.script.Script.{Script}
use Rattle.script_text.specs.Script.{IsScriptOf, IsFirstBad}
use Rattle.transcript.specs.Counts.{brief_of}
use Rattle.transcript.specs.Replies.{open_items}
use Rattle.transcript.specs.Text.{text_of}
use Rattle.version_model.specs.declared.verdict.Verdict.{Verdict}
use Rattle.version_model.specs.declared.verdict.Verdict.TheVariants.{Legal, Illegal}
use Rattle.version_model.specs.declared.work.Work.{Work}
use Rattle.wire_msg.specs.declared.packet.Do.{Do}
use Rattle.wire_msg.specs.NodeStep.{NodeStep}
use Rattle.world_base.specs.declared.estate.Estate.{Estate}
use Rattle.world_base.specs.Runs.{IsWholeRun, begun_in}
use Rattle.xfs_base.specs.declared.node.NodeId.{NodeId}
use Rattle.xfs_base.specs.declared.setup.Setup.{Setup}
use Rattle.xfs_base.specs.Causes.{Rose}
use Rattle.top_call.specs.declared.command.Command.{Command}
use Rattle.top_call.specs.declared.command.Command.TheVariants.{Run, Live, Mount, Gen, Big, Audit, Boards, Disks}
use Rattle.top_call.specs.declared.command.Drawn.{Drawn}
use Rattle.top_call.specs.declared.outcome.Outcome.{Outcome}
use Rattle.top_call.specs.Commands.{reads}
use Rattle.top_call.specs.Input.{limit, ReadWhole}
use Rattle.top_call.specs.Output.{AppendsFront}
use Rattle.top_call.specs.Spoken.{refused_text, usage_text, verdict_text}

-- what a sink held before and after, where it tells that, and how often writes had failed
pub record Writing : Type 0 where
  pub before : Option (List ℕ)
  pub after : Option (List ℕ)
  pub faults : ℕ
  pub faults_after : ℕ

-- what a source had to give before and after, where it tells that, and how often reads had failed
pub record Reading : Type 0 where
  pub before : Option (List ℕ)
  pub after : Option (List ℕ)
  pub faults : ℕ
  pub faults_after : ℕ

-- the script that is drawn
abbrev pub script_of : Drawn → Script
script_of d = generated d.number d.turns

-- what a sink says of two of its states, and a source
abbrev pub writing : {K : Type 0} → (K → Option (List ℕ)) → (K → ℕ) → K → K → Writing
writing written faults old new = record { before = written old; after = written new; faults = faults old; faults_after = faults new }

abbrev pub reading : {S : Type 0} → (S → Option (List ℕ)) → (S → ℕ) → S → S → Reading
reading left faults old new = record { before = left old; after = left new; faults = faults old; faults_after = faults new }

-- what the source told is read to its end or to the limit; where nothing is read it is empty
abbrev pub IsRead : Bool → Reading → List ℕ → Type 0
IsRead true r input = ReadWhole r.before input × Consumes r.before r.after input
IsRead false r input = input ≡ []

-- the input of a command; none where it reads none
abbrev pub IsInput : Option Command → Reading → List ℕ → Type 0
IsInput command r input = IsRead (reads command) r input

-- at most so many bytes were read
abbrev pub ReadsAtMost : Reading → ℕ → Type 0
ReadsAtMost r bound = (bytes : List ℕ) × (length bytes ≤ bound) × Consumes r.before r.after bytes

abbrev pub verdict_status : Verdict → ℕ
verdict_status (Legal count) = 0
verdict_status (Illegal number) = 1

-- what is to be answered: a text, a status and, where a script is played, its run
pub record Wanted (N : Type 0) : Type 0 where
  pub text : List ℕ
  pub status : ℕ
  pub estate : Option (Estate N)

module _ {N : Type 0} where
  abbrev pub line : List ℕ → ℕ → Wanted N
  line text status = record { text = text; status = status; estate = None }

  -- the first bad line of an input
  abbrev pub refusal : ℕ → Kind → Wanted N
  refusal number kind = line (refused_text number kind) 3

  -- whether no item of a run is unanswered
  abbrev pub is_full : Estate N → Bool
  is_full e = open_items e == 0

  -- a run: 1 where an item of it is unanswered
  abbrev pub run_status : Estate N → ℕ
  run_status e = if open_items e == 0 then 0 else 1

  abbrev pub run_answer : List ℕ → Estate N → Wanted N
  run_answer text e = record { text = text; status = run_status e; estate = Some e }

  -- all of it was written; or a front of it, and a write failed
  abbrev pub IsWhole : Writing → Outcome N → Wanted N → Type 0
  IsWhole s o w = (o.status ≡ w.status) × Appends s.before s.after w.text

  abbrev pub IsCut : Writing → Outcome N → Wanted N → Type 0
  IsCut s o w = (o.status ≡ 5) × AppendsFront s.before s.after w.text × Rose s.faults s.faults_after

  abbrev pub Tells : Writing → Outcome N → Wanted N → Type 0
  Tells s o w = (o.estate ≡ w.estate) × (IsWhole s o w ⊎ IsCut s o w)

  -- memory is wanting, and nothing was written
  abbrev pub GivesUp : Writing → Outcome N → Type 0
  GivesUp s o = (o.status ≡ 7) × (o.estate ≡ None) × Keeps s.before s.after

  abbrev pub TellsOrGivesUp : Writing → Outcome N → Wanted N → Type 0
  TellsOrGivesUp s o w = Tells s o w ⊎ GivesUp s o

  -- a read failed, and nothing was written
  abbrev pub CannotRead : Reading → Writing → Outcome N → Type 0
  CannotRead r s o = (o.status ≡ 4) × (o.estate ≡ None) × Keeps s.before s.after × Rose r.faults r.faults_after

module _ {N : Type 0} (step : N → Do → NodeStep N) (first : NodeId → Setup → List Work → N) where
  -- the text of the run of a script
  abbrev pub run_wanted : Script → Wanted N
  run_wanted script = run_answer (text_of (estate_of step first script)) (estate_of step first script)

  -- the counts of the run of a script
  abbrev pub brief_wanted : Script → Wanted N
  brief_wanted script = run_answer (brief_of (estate_of step first script)) (estate_of step first script)

  -- the text of the run of a script with boards, which is that of the run with one registry that it stands for
  abbrev pub boards_wanted : Script → Wanted N
  boards_wanted script = run_answer (text_of (board_estate_of step first script).estate) (board_estate_of step first script).estate

  -- an input is a script, which is played, or has a first bad line
  abbrev pub AnswersScript : List ℕ → Wanted N → Type 0
  AnswersScript input w =
      ((script : Script) × IsScriptOf false input script × (w ≡ run_wanted script))
      ⊎ ((number : ℕ) × (kind : Kind) × IsFirstBad false input number kind × (w ≡ refusal number kind))

  -- an input is a script, which is played with boards, or has a first bad line
  abbrev pub AnswersBoards : List ℕ → Wanted N → Type 0
  AnswersBoards input w =
      ((script : Script) × IsScriptOf false input script × (w ≡ boards_wanted script))
      ⊎ ((number : ℕ) × (kind : Kind) × IsFirstBad false input number kind × (w ≡ refusal number kind))

  -- a run by workers: a full one where no item is open; where one is, it was given up
  abbrev pub IsLiveRun : Estate N → Type 0
  IsLiveRun e = IsLive step first (is_full e) e

  -- what is wanted of a script that workers run: the text of some run of it in which each item is begun at its due; none is left out and each is answered, or, where
  -- one is open, time passed at each node 256 times or more behind its last answer
  pub record IsLiveAnswer (script : Script) (w : Wanted N) : Type 0 where
    pub run : Estate N
    pub of_script : run.script ≡ script
    pub live : IsLiveRun run
    pub answer : w ≡ run_answer (text_of run) run

  -- It is a whole run of its script, which some text spells, played by one thread: all items are begun in the order of their lines. It is the one that the
  -- script determines with servers that stop (`DisksOf`).
  pub record IsPlayedWithDisks (e : Estate N) : Type 0 where
    pub whole : IsWholeRun step first e
    pub in_order : begun_in e.events ≡ actors_of e.script.lines
    pub accepted : IsScript e.script

  -- what is wanted of a script that is played with servers that stop: the text of such a run
  pub record IsDisksAnswer (script : Script) (w : Wanted N) : Type 0 where
    pub run : Estate N
    pub of_script : run.script ≡ script
    pub played : IsPlayedWithDisks run
    pub answer : w ≡ run_answer (text_of run) run

  abbrev pub TellsDisks : Script → Writing → Outcome N → Type 0
  TellsDisks script s o = ((w : Wanted N) × IsDisksAnswer script w × Tells s o w) ⊎ GivesUp s o

  -- an input is a script, which is played with servers that stop, or has a first bad line
  abbrev pub AnswersDisks : List ℕ → Wanted N → Type 0
  AnswersDisks input w =
      ((script : Script) × IsScriptOf false input script × IsDisksAnswer script w)
      ⊎ ((number : ℕ) × (kind : Kind) × IsFirstBad false input number kind × (w ≡ refusal number kind))

  -- it is told, or memory is wanting
  abbrev pub TellsLive : Script → Writing → Outcome N → Type 0
  TellsLive script s o = ((w : Wanted N) × IsLiveAnswer script w × Tells s o w) ⊎ GivesUp s o

  -- an input is a script, each crash of which is followed by a restart of that node, and workers run it; or has a first bad line
  abbrev pub AnswersLive : List ℕ → Wanted N → Type 0
  AnswersLive input w =
      ((script : Script) × IsScriptOf true input script × IsLiveAnswer script w)
      ⊎ ((number : ℕ) × (kind : Kind) × IsFirstBad true input number kind × (w ≡ refusal number kind))

  -- an input is a journal, which is judged, or has a first bad line
  abbrev pub AnswersJournal : List ℕ → Wanted N → Type 0
  AnswersJournal input w =
      ((verdict : Verdict) × IsAudited input verdict × (w ≡ line (verdict_text verdict) (verdict_status verdict)))
      ⊎ ((number : ℕ) × (kind : Kind) × (read_journal input ≡ Err (record { line = number; kind = kind })) × (w ≡ refusal number kind))

  -- what a command wants to be answered, of an input if it reads one; words that are no form want the usage line
  abbrev pub Wants : Option Command → List ℕ → Wanted N → Type 0
  Wants None input w = w ≡ line usage_text 2
  Wants (Some Run) input w = AnswersScript input w
  Wants (Some (Live workers)) input w = AnswersLive input w
  Wants (Some (Mount workers)) input w = AnswersLive input w
  Wants (Some (Gen d)) input w = w ≡ line (printed (script_of d)) 0
  Wants (Some (Big d)) input w = w ≡ brief_wanted (script_of d)
  Wants (Some Audit) input w = AnswersJournal input w
  Wants (Some Boards) input w = AnswersBoards input w
  Wants (Some Disks) input w = AnswersDisks input w

  -- what is wanted of the input is told
  pub record Answers (command : Option Command) (input : List ℕ) (s : Writing) (o : Outcome N) : Type 0 where
    pub wanted : Wanted N
    pub wants : Wants command input wanted
    pub told : Tells s o wanted

  abbrev pub AnswersOrGivesUp : Option Command → List ℕ → Writing → Outcome N → Type 0
  AnswersOrGivesUp command input s o = Answers command input s o ⊎ GivesUp s o

  -- a command is answered as is wanted of what it read; or memory is wanting, or it reads an input and a read failed, and nothing was written
  abbrev pub Ends : Option Command → Reading → Writing → Outcome N → Type 0
  Ends command r s o =
      ((input : List ℕ) × IsInput command r input × Answers command input s o)
      ⊎ (GivesUp s o ⊎ (IsTrue (reads command) × CannotRead r s o))

  -- it is a whole run of its script, played by one thread: all items are begun in the order of their lines; and it is the one run that the script, which some
  -- text spells, determines
  pub record IsPlayed (e : Estate N) : Type 0 where
    pub whole : IsWholeRun step first e
    pub in_order : begun_in e.events ≡ actors_of e.script.lines
    pub accepted : IsScript e.script
    pub exact : e ≡ estate_of step first e.script

  -- It is the run that its script determines with boards, and where the registry is among the nodes it stands for one of the script with one registry.
  pub record IsPlayedWithBoards (e : Estate N) : Type 0 where
    pub determined : e ≡ (board_estate_of step first e.script).estate
    pub played : HasRegistry step first → IsBoardPlayed step first (board_estate_of step first e.script)

  -- what a command runs: by workers, each item begun at its due, and all answered or given up; else by one thread, with boards, with servers that stop, or plainly
  abbrev pub IsRunBy : Option Command → Estate N → Type 0
  IsRunBy (Some (Live workers)) e = IsLiveRun e
  IsRunBy (Some (Mount workers)) e = IsLiveRun e
  IsRunBy (Some Boards) e = IsPlayedWithBoards e
  IsRunBy (Some Disks) e = IsPlayedWithDisks e
  IsRunBy command e = IsPlayed e

  -- what happened to nodes and boards in a run that a script determines with boards
  abbrev pub boards_in : Option (Estate N) → Option (List BoardEvent)
  boards_in None = None
  boards_in (Some e) = Some (board_estate_of step first e.script).events

  -- it is told where the words are `boards` and there is a run
  abbrev pub boards_of : Option Command → Option (Estate N) → Option (List BoardEvent)
  boards_of (Some Boards) o = boards_in o
  boards_of command o = None

  -- what a call of the program answers
  pub record Claim (command : Option Command) (r : Reading) (s : Writing) (o : Outcome N) : Type 0 where
    -- words that are no form are answered by the usage line
    pub usage : command ≡ None → Tells s o (line usage_text 2)
    -- a command is answered by the text or the counts of its run, its script, its verdict or its refusal; or memory is wanting, or a read failed
    pub ends : Ends command r s o
    -- what was run is a whole run of its script, by one thread or by workers, or was given up by these; or, with boards, a run that stands for one with one registry
    pub run : IfSome o.estate (IsRunBy command)
    -- and what happened to nodes and boards is told
    pub boards : o.boards ≡ boards_of command o.estate
    -- at most 1,048,577 bytes are read, and no count of faults falls
    pub bounded : ReadsAtMost r limit
    pub later : (r.faults ≤ r.faults_after) × (s.faults ≤ s.faults_after)
