-- What `xfs audit` says of the text that is written of a run: that it is legal, up to the first doubtful restart. So the text is its own witness.
use Rattle.std.specs.List.{filter}
use Rattle.std.specs.Prelude.{◌≡◌, ◌≤◌, ℕ, true, not, List, ◌++◌, length}
use Rattle.act_text.specs.Acts.{acts_text}
use Rattle.audit.specs.Journal.{IsAudited}
use Rattle.core_world.specs.declared.any_node.AnyNode.{AnyNode}
use Rattle.transcript.specs.Replies.{is_answer}
use Rattle.transcript.specs.Text.{items_text, text_of}
use Rattle.version_model.specs.declared.act.Act.{Act}
use Rattle.version_model.specs.declared.verdict.Verdict.{Verdict}
use Rattle.version_model.specs.declared.verdict.Verdict.TheVariants.{Legal}
use Rattle.world_base.specs.declared.estate.Estate.{Estate}
use Rattle.world_base.specs.Items.{works_of}
use Rattle.xfs_base.specs.Limits.{max_bytes}
use Rattle.headline.specs.Moments.{moment}
use Rattle.headline.specs.Restarts.{LosesNone, NoDoubtfulRestart}

-- the acts that have a line of their own: an answer stands in the line of its item
abbrev pub told : List Act → List Act
told acts = filter (λ a. not (is_answer a)) acts

-- What `audit` says of these bytes, if memory suffices, is that they are legal, of so many acts. No line of them is refused, and no other verdict is theirs.
pub record AreSaidLegal (bytes : List ℕ) (count : ℕ) : Type 0 where
  pub judged : IsAudited bytes (Legal count)
  pub only : (verdict : Verdict) → IsAudited bytes verdict → verdict ≡ Legal count

-- that they are, unless they are more than an input may be
abbrev pub SaysLegal : List ℕ → List Act → Type 0
SaysLegal bytes acts = length bytes ≤ max_bytes → AreSaidLegal bytes (length (told acts))

-- the front of a run's text that ends with the acts up to a moment: before them stand the lines of all items
abbrev pub text_upto : Estate AnyNode → ℕ → List ℕ
text_upto e count = items_text e ++ acts_text (moment e count).acts

-- Of a run whose script asks for the acts:
pub record TextIsLegal (e : Estate AnyNode) : Type 0 where
  -- up to each moment up to which no restart that ended was doubtful, the front of the text with the acts up to there is said to be legal
  pub fronts : (count : ℕ) → NoDoubtfulRestart e count → SaysLegal (text_upto e count) (moment e count).acts
  -- where none was, the text is
  pub whole : NoDoubtfulRestart e (length e.events) → SaysLegal (text_of e) e.world.acts
  -- and so it is where no line of the script has a server lose its disk
  pub unlost : LosesNone (works_of e.script.lines) → SaysLegal (text_of e) e.world.acts

-- so it is where the script has the line `acts`
abbrev pub IsAuditedLegal : Estate AnyNode → Type 0
IsAuditedLegal e = e.script.setup.acts ≡ true → TextIsLegal e
