-- The lines of a script ask nothing of nodes that its setup has not.
use Rattle.std.proofs.Common.{ℕ, ◌≤◌, ◌-◌, List, [], ◌∷◌, length, sym, subst, arith}
use Rattle.std.specs.List.{AllByRecursion}
use Rattle.xfs_base.specs.declared.setup.Setup.{Setup}
use Rattle.version_model.specs.declared.work.Work.{Work}
use Rattle.script_text.specs.declared.form.Form.{Form}
use Rattle.script_text.specs.declared.form.Form.TheVariants as forms
use Rattle.script_text.specs.declared.script.Line.{Line}
use Rattle.script_text.specs.declared.script.Script.{Script}
use Rattle.script_text.specs.Forms.{Meanings, parts, work_of}
use Rattle.script_text.specs.Lines.{lines}
use Rattle.script_text.specs.Script.{text_size}
use Rattle.script_text.specs.Spelling.{Context, IsOneOf}
use Rattle.script_print.specs.Printing.{IsScript}
use Rattle.script_print.proofs.Asks.{lines_lack}
use Rattle.script_print.proofs.Extracts.{AreAsked, script_whole}
use Rattle.script_print.proofs.ItemLines.{IsAsked}
use Rattle.script_print.proofs.LineReads.{AllFit}
use Rattle.world_base.specs.Items.{actor_of}
use Rattle.live_run.specs.Live.{IsLineOfNode, IsOfNode, NamesNodes}

one_of : (count n : ℕ) → IsOneOf count n → (1 ≤ n) × (n ≤ count)
one_of count n h = (omega (arith, h.0), h.1)

-- what a line of a form asks for is asked of a node that the setup has
module _ (c : Context) where
  form_named : (f : Form) (v : Meanings (parts f)) → AllFit c (parts f) v → IsOfNode c.setup (actor_of (work_of f v))
  form_named forms.Bput (k, (u, (ino, (blk, (text, e))))) h = one_of c.setup.clients k h.0.1.1
  form_named forms.Bget (k, (u, (ino, (blk, e)))) h = one_of c.setup.clients k h.0.1.1
  form_named forms.Sync (k, u) h = one_of c.setup.clients k h.0.1.1
  form_named forms.Mk (k, (u, (path, e))) h = one_of c.setup.clients k h.0.1.1
  form_named forms.Mkdir (k, (u, (path, e))) h = one_of c.setup.clients k h.0.1.1
  form_named forms.Put (k, (u, (path, (offset, (text, e))))) h = one_of c.setup.clients k h.0.1.1
  form_named forms.Get (k, (u, (path, (offset, (len, e))))) h = one_of c.setup.clients k h.0.1.1
  form_named forms.Size (k, (u, (path, e))) h = one_of c.setup.clients k h.0.1.1
  form_named forms.Ls (k, (u, (path, e))) h = one_of c.setup.clients k h.0.1.1
  form_named forms.Rm (k, (u, (path, e))) h = one_of c.setup.clients k h.0.1.1
  form_named forms.Mv (k, (u, (path, (to, e)))) h = one_of c.setup.clients k h.0.1.1
  form_named forms.ClientCrash (k, u) h = one_of c.setup.clients k h.0.1.1
  form_named forms.ClientRestart (k, u) h = one_of c.setup.clients k h.0.1.1
  form_named forms.CleanerCrash u h = tt
  form_named forms.CleanerRestart u h = tt
  form_named forms.Clean (u, (e, (count, z))) h = tt
  form_named forms.ManagerCrash (k, u) h = one_of c.setup.managers k h.0.1.1
  form_named forms.ManagerRestart (k, u) h = one_of c.setup.managers k h.0.1.1
  form_named forms.Checkpoint (k, u) h = one_of c.setup.managers k h.0.1.1
  form_named forms.Lose (k, u) h = one_of c.setup.servers k h.0.1.1
  form_named forms.Rebuild (k, u) h = one_of c.setup.servers k h.0.1.1
  form_named forms.ServerStop (k, (u, (passes, e))) h = tt
  form_named forms.ServerStart (k, u) h = tt
  form_named forms.Move (u, (e, (slot, (k, z)))) h = tt
  form_named forms.BoardStop (k, u) h = tt
  form_named forms.BoardStart (k, u) h = tt
  form_named forms.NetLose (u, (e, (count, z))) h = tt
  form_named forms.NetAgain (u, (e, (count, z))) h = tt
  form_named forms.NetMix (u, (e, (number, z))) h = tt
  form_named forms.NetHold u h = tt
  form_named forms.NetGo u h = tt
  form_named forms.NetStep (u, (e, (count, z))) h = tt

  work_named : (after : ℕ) (work : Work) → IsAsked c after work → IsOfNode c.setup (actor_of work)
  work_named after work a = subst (λ w. IsOfNode c.setup (actor_of w)) (sym a.meant) (form_named a.form a.meanings a.fits)

lines_named : (s : Setup) (before room : ℕ) (ls : List Line) → AreAsked s before room ls → AllByRecursion (IsLineOfNode s) ls
lines_named s before room [] h = tt
lines_named s before room (l ∷ ls) h =
    (work_named (record { setup = s; room = room }) l.after l.work h.2, lines_named s l.number (room - text_size l.work) ls h.3)

pub script_names : (s : Script) → IsScript s → NamesNodes s
script_names s (live, bytes, h) = lines_named s.setup _ _ s.lines (script_whole live (length bytes) (lines bytes) s (lines_lack bytes) h).asked
