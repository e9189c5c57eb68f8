-- The lines that the program itself writes.
use Rattle.std.specs.Prelude.{ℕ, List, [], ◌∷◌, ◌++◌, codes}
use Rattle.std.specs.Fmt.{decimal}
use Rattle.script_text.specs.declared.refusal.Kind.{Kind}
use Rattle.script_text.specs.declared.refusal.Kind.TheVariants.{BadSetup, BadWord, BadNumber, BadText, TooLong, NoNode, Unclosed, Unbuilt}
use Rattle.version_model.specs.declared.verdict.Verdict.{Verdict}
use Rattle.version_model.specs.declared.verdict.Verdict.TheVariants.{Legal, Illegal}

abbrev pub kind_text : Kind → List ℕ
kind_text BadSetup = codes "BadSetup"
kind_text BadWord = codes "BadWord"
kind_text BadNumber = codes "BadNumber"
kind_text BadText = codes "BadText"
kind_text TooLong = codes "TooLong"
kind_text NoNode = codes "NoNode"
kind_text Unclosed = codes "Unclosed"
kind_text Unbuilt = codes "Unbuilt"

-- the line that names the first bad line and its kind
abbrev pub refused_text : ℕ → Kind → List ℕ
refused_text number kind = codes "refused line " ++ (decimal number ++ 32 ∷ (kind_text kind ++ 10 ∷ []))

-- the line of what is said of a journal
abbrev pub verdict_text : Verdict → List ℕ
verdict_text (Legal count) = codes "legal " ++ (decimal count ++ 10 ∷ [])
verdict_text (Illegal line) = codes "illegal " ++ (decimal line ++ 10 ∷ [])

abbrev pub usage_text : List ℕ
usage_text = codes "usage: xfs run | live W | mount W | gen NUMBER N | big NUMBER N | audit | boards | disks" ++ 10 ∷ []
