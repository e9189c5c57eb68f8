-- The work of a form that is known.
use Rattle.std.proofs.Common.{◌≡◌, ℕ, List, [], ◌∷◌, min, refl, sym, ◌∙◌, ap, subst, false, Result, Ok, Err}
use Rattle.version_model.specs.declared.work.Work.{Work}
use Rattle.script_text.specs.declared.form.Form.{Form}
use Rattle.script_text.specs.declared.form.Form.TheVariants.{Bput}
use Rattle.script_text.specs.declared.form.Part.TheVariants as part
use Rattle.script_text.specs.declared.refusal.Kind.{Kind}
use Rattle.script_text.specs.declared.refusal.Kind.TheVariants.{BadNumber}
use Rattle.script_text.specs.declared.refusal.LineError.{LineError}
use Rattle.script_text.specs.declared.refusal.LineError.TheVariants.{Bad, Memory}
use Rattle.script_text.specs.Words.{joined, first, behind}
use Rattle.script_text.specs.Outcome.{Answers, Fails, or_fault}
use Rattle.script_text.specs.Spelling.{Context}
use Rattle.script_text.specs.Reading.{number_in, raw_in, read_node, read_text, read_work}
use Rattle.script_text.proofs.Items.{part_then_err, part_err, work_bad}
use Rattle.xfs_base.specs.Limits.{u32_end, max_value}

pub work_is : (c : Context) (f g : Form) (ws : List (List ℕ)) (r : Result Work LineError) → f ≡ g → Answers r (read_work c g ws) → Answers r (read_work c f ws)
work_is c f g ws r e h = let P : Form → Type 0 = λ x. Answers r (read_work c x ws) in subst P (sym e) h

-- the text of a bput at fault, where its other parts are good
bput_fault : (c : Context) (ws : List (List ℕ)) (k ino blk : ℕ) (x : Kind) → read_node 99 c.setup.clients (first ws) ≡ Ok k
    → or_fault BadNumber (raw_in (first (behind (behind ws)))) ≡ Ok ino
    → or_fault BadNumber (number_in 0 u32_end (first (behind (behind (behind ws))))) ≡ Ok blk
    → read_text false (min max_value c.room) (joined 32 (behind (behind (behind (behind ws))))) ≡ Err x → read_work c Bput ws ≡ Err x
bput_fault c ws k ino blk x a b d f =
    work_bad c Bput ws x
    (part_then_err c part.Client (part.Verb ∷ part.Raw ∷ part.Number 0 u32_end ∷ part.BlockText ∷ []) ws k x a
    (part_then_err c part.Verb (part.Raw ∷ part.Number 0 u32_end ∷ part.BlockText ∷ []) (behind ws) tt x refl
    (part_then_err c part.Raw (part.Number 0 u32_end ∷ part.BlockText ∷ []) (behind (behind ws)) ino x b
    (part_then_err c (part.Number 0 u32_end) (part.BlockText ∷ []) (behind (behind (behind ws))) blk x d
    (part_err c part.BlockText [] (behind (behind (behind (behind ws)))) x f)))))

pub bput_text : (c : Context) (ws w2 w3 w4 : List (List ℕ)) (k ino blk m : ℕ) (e : LineError) → w2 ≡ behind (behind ws) → w3 ≡ behind w2 → w4 ≡ behind w3
    → m ≡ min max_value c.room → read_node 99 c.setup.clients (first ws) ≡ Ok k → or_fault BadNumber (raw_in (first w2)) ≡ Ok ino
    → or_fault BadNumber (number_in 0 u32_end (first w3)) ≡ Ok blk → Fails e (read_text false m (joined 32 w4)) → Fails e (read_work c Bput ws)
bput_text c ws w2 w3 w4 k ino blk m Memory e2 e3 e4 e5 a b d f = tt
bput_text c ws w2 w3 w4 k ino blk m (Bad x) e2 e3 e4 e5 a b d f =
    let g3 : w3 ≡ behind (behind (behind ws)) = e3 ∙ ap behind e2 in
    let g4 : w4 ≡ behind (behind (behind (behind ws))) = e4 ∙ ap behind g3 in
    bput_fault c ws k ino blk x a (rw e2 at b) (rw g3 at d) (rw (e5, g4) at f)
