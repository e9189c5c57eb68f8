-- A journal that is read line by line.
use Rattle.std.proofs.Common.{◌≡◌, ℕ, Bool, false, List, [], ◌∷◌, ◌++◌, Some, Ok, refl, sym, ◌∙◌}
use Rattle.version_model.specs.declared.act.Act.{Act}
use Rattle.audit.specs.declared.journal.Journal.{Journal}
use Rattle.audit.specs.Acts.{read_act}
use Rattle.audit.specs.Journal.{is_skipped, said, noted}

-- a line that is not skipped says what it is read as
pub said_act : (line : List ℕ) (act : Act) {t : Bool} → t ≡ false → t ≡ is_skipped line → read_act line ≡ Ok act → said line ≡ Ok (Some act)
said_act line act f e h = rw (sym e ∙ f, h) refl

pub noted_act : (j : Journal) (number n : ℕ) (act : Act) (acts : List Act) (lines : List ℕ) → acts ≡ j.acts ++ act ∷ [] → lines ≡ j.lines ++ n ∷ [] → n ≡ number
    → record { acts = acts; lines = lines } ≡ noted j number (Some act)
noted_act j number n act acts lines e f g = rw (e, f, g) refl
