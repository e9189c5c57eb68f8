-- The lines of a script that is accepted are as the one machine has them: what is written block by block is a raw file, and there are eight clients at most.
use Rattle.std.proofs.Common.{◌≤◌, ℕ, ◌-◌, List, [], ◌∷◌, length, subst, sym, arith}
use Rattle.node_base.specs.Setups.{IsSetup}
use Rattle.one_machine.specs.Trees.{AreFit, IsFit}
use Rattle.script_print.proofs.Asks.{lines_lack}
use Rattle.script_print.proofs.Extracts.{AreAsked, script_whole}
use Rattle.script_print.proofs.ItemLines.{IsAsked}
use Rattle.script_print.proofs.LineReads.{AllFit}
use Rattle.script_print.proofs.Spelled.{Fits}
use Rattle.script_print.specs.Printing.{IsScript}
use Rattle.script_text.proofs.Bounds.{few_items}
use Rattle.script_text.specs.declared.form.Form.{Form}
use Rattle.script_text.specs.declared.form.Form.TheVariants.{Bput, Mk, Mkdir, Put, Get, Size, Ls, Rm, Mv}
use Rattle.script_text.specs.declared.form.Part.TheVariants as part
use Rattle.script_text.specs.declared.script.Line.{Line}
use Rattle.script_text.specs.declared.script.Script.{Script}
use Rattle.script_text.specs.Forms.{Meanings, parts, work_of}
use Rattle.script_text.specs.Lines.{lines}
use Rattle.script_text.specs.Script.{text_size}
use Rattle.script_text.specs.Spelling.{Context, IsNumber, IsOneOf}
use Rattle.version_model.specs.declared.work.Work.{Work}
use Rattle.xfs_base.specs.declared.setup.Setup.{Setup}
use Rattle.xfs_base.specs.Blocks.{IsRaw}
use Rattle.xfs_base.specs.Limits.{max_lines}

module _ (c : Context) (most : c.setup.clients ≤ 8) where
  client_there : (k : ℕ) → Fits c part.Client k → (1 ≤ k) × (k ≤ 8)
  client_there k fits =
      let within : IsOneOf c.setup.clients k = fits.1.1 in
      let some = within.0 in
      let few = within.1 in
      (omega arith, omega arith)

  raw_there : (n : ℕ) → Fits c part.Raw n → IsRaw n
  raw_there n fits = let spelled : IsNumber fits.0 n × IsRaw n = fits.1.0 in spelled.1

  form_fits : (f : Form) (v : Meanings (parts f)) → AllFit c (parts f) v → IsFit (work_of f v)
  form_fits Bput (k, (u, (ino, (blk, (text, e))))) fits = raw_there ino fits.1.1.0
  form_fits Mk (k, (u, (path, e))) fits = client_there k fits.0
  form_fits Mkdir (k, (u, (path, e))) fits = client_there k fits.0
  form_fits Put (k, (u, (path, (offset, (text, e))))) fits = client_there k fits.0
  form_fits Get (k, (u, (path, (offset, (len, e))))) fits = client_there k fits.0
  form_fits Size (k, (u, (path, e))) fits = client_there k fits.0
  form_fits Ls (k, (u, (path, e))) fits = client_there k fits.0
  form_fits Rm (k, (u, (path, e))) fits = client_there k fits.0
  form_fits Mv (k, (u, (path, (to, e)))) fits = client_there k fits.0
  form_fits _ v fits = tt

  work_fits : (after : ℕ) (work : Work) → IsAsked c after work → IsFit work
  work_fits after work asked = subst IsFit (sym asked.meant) (form_fits asked.form asked.meanings asked.fits)

lines_fit : (setup : Setup) → setup.clients ≤ 8 → (before room : ℕ) (items : List Line) → AreAsked setup before room items → AreFit items
lines_fit setup most before room [] asked = tt
lines_fit setup most before room (l ∷ items) asked = (
  work_fits (record { setup = setup; room = room }) most l.after l.work asked.2,
  lines_fit setup most l.number (room - text_size l.work) items asked.3,
)

pub accepted_fits : (script : Script) → IsSetup script.setup → IsScript script → AreFit script.lines
accepted_fits script setup (live, bytes, is) =
    let whole = script_whole live (length bytes) (lines bytes) script (lines_lack bytes) is in
    lines_fit script.setup setup.clients.1 _ _ script.lines whole.asked

pub accepted_few : (script : Script) → IsScript script → length script.lines ≤ max_lines
accepted_few script (live, bytes, is) = few_items live bytes script is
