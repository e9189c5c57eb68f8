-- A quiet script that is read from a text is in range: what its lines name is what some words spelled, within the limits of their parts.
use Rattle.std.proofs.Common.{true≢false, ◌≡◌, ◌≤◌, ◌<◌, ◌^◌, ◌&&◌, ℕ, ◌-◌, true, List, [], ◌∷◌, length, min, nat_lt, refl, sym, ap, ◌∙◌, arith}
use Rattle.std.specs.Prelude.{Some}
use Rattle.std.specs.List.{list_all}
use Rattle.std.proofs.lemmas.Bool.{and_parts, lt-ltb}
use Rattle.std.proofs.lemmas.Bool.Decides.{nat_tests}
use Rattle.node_base.specs.Setups.{IsSetup}
use Rattle.script_print.proofs.Asks.{lines_lack}
use Rattle.script_print.proofs.Bytes.{AreBytes, spelled_bytes}
use Rattle.script_print.proofs.Extracts.{AreAsked, script_whole}
use Rattle.script_print.proofs.ItemLines.{IsAsked}
use Rattle.script_print.proofs.LineReads.{AllFit}
use Rattle.script_print.proofs.Spelled.{Fits}
use Rattle.script_print.specs.Printing.{IsScript}
use Rattle.script_text.proofs.Bounds.{few_items}
use Rattle.script_text.specs.declared.form.Form.{Form}
use Rattle.script_text.specs.declared.form.Form.TheVariants.{Bput, Bget, Sync, Mk, Mkdir, Put, Get, Size, Ls, Rm, Mv, ClientCrash, ClientRestart, CleanerCrash, CleanerRestart, Clean, ManagerCrash, ManagerRestart, Checkpoint, Lose, Rebuild, ServerStop, ServerStart, Move, BoardStop, BoardStart, NetLose, NetAgain, NetMix, NetHold, NetGo, NetStep}
use Rattle.script_text.specs.declared.form.Part.TheVariants as part
use Rattle.script_text.specs.declared.script.Line.{Line}
use Rattle.script_text.specs.declared.script.Script.{Script}
use Rattle.script_text.specs.Forms.{Meanings, parts, work_of}
use Rattle.script_text.specs.Lines.{lines}
use Rattle.script_text.specs.Script.{text_size}
use Rattle.script_text.specs.Spelling.{Context, IsNumber, IsOneOf}
use Rattle.script_text.specs.Text.{SpellsText}
use Rattle.segment_format.specs.Format.{second_version, is_length}
use Rattle.version_model.specs.declared.work.Work.{Work}
use Rattle.xfs_base.specs.declared.block.BlockId.{BlockId}
use Rattle.xfs_base.specs.declared.setup.Setup.{Setup}
use Rattle.xfs_base.specs.Blocks.{IsRaw}
use Rattle.xfs_base.specs.Limits.{max_value, u32_end}
use Rattle.quiet_script.specs.Quiet.{IsOrderly, has_length, has_numbers, is_byte, is_client, is_in_range}
use Rattle.headline.specs.Bounds.{IsQuiet, is_quiet}

-- ---- parts of a line

module _ (c : Context) where
  client_there : (k : ℕ) → Fits c part.Client k → is_client c.setup k ≡ true
  client_there k fits =
      let within : IsOneOf c.setup.clients k = fits.1.1 in
      let some = within.0 in
      let most = within.1 in
      grind (arith, nat_tests)

  raw_below : (n : ℕ) → Fits c part.Raw n → n < 2 ^ 32
  raw_below n fits = let spelled : IsNumber fits.0 n × IsRaw n = fits.1.0 in spelled.0.0

  number_below : (n : ℕ) → Fits c (part.Number 0 u32_end) n → n < 2 ^ 32
  number_below n fits = let spelled : IsNumber fits.0 n × (0 ≤ n) × (n ≤ u32_end) = fits.1.0 in spelled.0.0

  text_spelled : (text : List ℕ) → Fits c part.BlockText text → (0 < length text) × (length text ≤ max_value) × AreBytes text
  text_spelled text fits =
      let spelled : SpellsText fits.0 text × (0 < length text) = fits.1.0 in
      let within : length text ≤ min max_value c.room = fits.1.1 in
      (spelled.1, grind (arith, nat_tests), spelled_bytes fits.0 text spelled.0)

all_bytes : (text : List ℕ) → AreBytes text → list_all is_byte text ≡ true
all_bytes [] bytes = refl
all_bytes (b ∷ text) bytes = ap (λ t. t && list_all is_byte text) (lt-ltb b 256 bytes.0) ∙ all_bytes text bytes.1

numbers_there : (block : BlockId) → block.ino.0 < 2 ^ 32 → block.blk < 2 ^ 32 → has_numbers block ≡ true
numbers_there block ino blk = ap (λ t. t && nat_lt block.blk (2 ^ 32)) (lt-ltb block.ino.0 (2 ^ 32) ino) ∙ lt-ltb block.blk (2 ^ 32) blk

length_there : (text : List ℕ) → 0 < length text → length text ≤ max_value → AreBytes text → has_length (Some text) ≡ true
length_there text some few bytes =
    let within : is_length second_version (length text) ≡ true = grind (arith, nat_tests) in
    ap (λ t. t && list_all is_byte text) within ∙ all_bytes text bytes

-- ---- lines

form_in_range : (c : Context) (f : Form) (v : Meanings (parts f)) → AllFit c (parts f) v → is_quiet (work_of f v) ≡ true → is_in_range c.setup (work_of f v) ≡ true
form_in_range c Bput (k, (u, (ino, (blk, (text, e))))) fits quiet =
    let spelled = text_spelled c text fits.1.1.1.1.0 in
    ap (λ t. t && (has_numbers (record { ino = record { 0 = ino }; blk = blk }) && has_length (Some text))) (client_there c k fits.0)
    ∙ ap (λ t. t && has_length (Some text)) (numbers_there (record { ino = record { 0 = ino }; blk = blk }) (raw_below c ino fits.1.1.0) (number_below c blk fits.1.1.1.0))
    ∙ length_there text spelled.0 spelled.1 spelled.2
form_in_range c Bget (k, (u, (ino, (blk, e)))) fits quiet =
    ap (λ t. t && has_numbers (record { ino = record { 0 = ino }; blk = blk })) (client_there c k fits.0)
    ∙ numbers_there (record { ino = record { 0 = ino }; blk = blk }) (number_below c ino fits.1.1.0) (number_below c blk fits.1.1.1.0)
form_in_range c Sync (k, u) fits quiet = client_there c k fits.0
form_in_range c Mk v fits quiet = absurd (true≢false (sym quiet))
form_in_range c Mkdir v fits quiet = absurd (true≢false (sym quiet))
form_in_range c Put v fits quiet = absurd (true≢false (sym quiet))
form_in_range c Get v fits quiet = absurd (true≢false (sym quiet))
form_in_range c Size v fits quiet = absurd (true≢false (sym quiet))
form_in_range c Ls v fits quiet = absurd (true≢false (sym quiet))
form_in_range c Rm v fits quiet = absurd (true≢false (sym quiet))
form_in_range c Mv v fits quiet = absurd (true≢false (sym quiet))
form_in_range c ClientCrash v fits quiet = absurd (true≢false (sym quiet))
form_in_range c ClientRestart v fits quiet = absurd (true≢false (sym quiet))
form_in_range c CleanerCrash v fits quiet = absurd (true≢false (sym quiet))
form_in_range c CleanerRestart v fits quiet = absurd (true≢false (sym quiet))
form_in_range c Clean v fits quiet = absurd (true≢false (sym quiet))
form_in_range c ManagerCrash v fits quiet = absurd (true≢false (sym quiet))
form_in_range c ManagerRestart v fits quiet = absurd (true≢false (sym quiet))
form_in_range c Checkpoint v fits quiet = absurd (true≢false (sym quiet))
form_in_range c Lose v fits quiet = absurd (true≢false (sym quiet))
form_in_range c Rebuild v fits quiet = absurd (true≢false (sym quiet))
form_in_range c ServerStop v fits quiet = absurd (true≢false (sym quiet))
form_in_range c ServerStart v fits quiet = absurd (true≢false (sym quiet))
form_in_range c Move v fits quiet = absurd (true≢false (sym quiet))
form_in_range c BoardStop v fits quiet = absurd (true≢false (sym quiet))
form_in_range c BoardStart v fits quiet = absurd (true≢false (sym quiet))
form_in_range c NetLose v fits quiet = absurd (true≢false (sym quiet))
form_in_range c NetAgain v fits quiet = absurd (true≢false (sym quiet))
form_in_range c NetMix v fits quiet = absurd (true≢false (sym quiet))
form_in_range c NetHold v fits quiet = absurd (true≢false (sym quiet))
form_in_range c NetGo v fits quiet = absurd (true≢false (sym quiet))
form_in_range c NetStep v fits quiet = absurd (true≢false (sym quiet))

work_in_range : (c : Context) (after : ℕ) (work : Work) → IsAsked c after work → is_quiet work ≡ true → is_in_range c.setup work ≡ true
work_in_range c after work asked quiet =
    ap (is_in_range c.setup) asked.meant
    ∙ form_in_range c asked.form asked.meanings asked.fits (sym (ap is_quiet asked.meant) ∙ quiet)

lines_in_range : (setup : Setup) (before room : ℕ) (items : List Line) → AreAsked setup before room items
    → list_all (λ (line : Line). is_quiet line.work) items ≡ true → list_all (λ (line : Line). is_in_range setup line.work) items ≡ true
lines_in_range setup before room [] asked quiet = refl
lines_in_range setup before room (l ∷ items) asked quiet =
    let both = and_parts (is_quiet l.work) (list_all (λ (line : Line). is_quiet line.work) items) quiet in
    ap (λ t. t && list_all (λ (line : Line). is_in_range setup line.work) items)
    (work_in_range (record { setup = setup; room = room }) l.after l.work asked.2 both.0)
    ∙ lines_in_range setup l.number (room - text_size l.work) items asked.3 both.1

-- where an accepted script is quiet, it is orderly
pub accepted_is_orderly : (script : Script) → IsSetup script.setup → IsScript script → IsQuiet script → IsOrderly script
accepted_is_orderly script setup (live, bytes, is) quiet =
    let whole = script_whole live (length bytes) (lines bytes) script (lines_lack bytes) is in
    record { setup = setup; few = few_items live bytes script is; each = lines_in_range script.setup _ _ script.lines whole.asked quiet }
