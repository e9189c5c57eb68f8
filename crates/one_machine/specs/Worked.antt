-- A worked script of two clients, and what one machine answers to it.
use Rattle.std.specs.Prelude.{ℕ, false, List, [], ◌∷◌, ◌++◌, codes, Some}
use Rattle.file_plan.specs.Names.{Name}
use Rattle.script_text.specs.declared.script.Line.{Line}
use Rattle.script_text.specs.declared.script.Script.{Script}
use Rattle.version_model.specs.declared.file_call.FileCall.TheVariants as call
use Rattle.version_model.specs.declared.work.Work.{Work}
use Rattle.version_model.specs.declared.work.Work.TheVariants as work
use Rattle.xfs_base.specs.declared.block.BlockId.{BlockId}

abbrev line : ℕ → Work → Line
line number wanted = record { number = number; after = 0; work = wanted }

-- block 0 of the file of this number
abbrev block : ℕ → BlockId
block number = record { ino = record { 0 = number }; blk = 0 }

abbrev a : Name
a = 97 ∷ []

-- Behind a line of the setup: `c1 bput 256 0 "hi"`, `c2 bget 256 0`, `c2 bput 256 0 "yo"`, `c1 sync`, `c1 bget 256 0`, `c1 bget 512 0`, `c1 mk /a`,
-- `c2 put /a 0 "hi"`, `c1 get /a 0 9`, `c2 rm /a`, `c1 size /a`.
abbrev pub script : Script
script = record {
  setup = record { clients = 2; managers = 1; servers = 3; groups = []; cache = 8; acts = false };
  lines =
      line 2 (work.Bput 1 (block 256) (Some (codes "hi")))
      ∷ line 3 (work.Bget 2 (block 256))
      ∷ line 4 (work.Bput 2 (block 256) (Some (codes "yo")))
      ∷ line 5 (work.Sync 1)
      ∷ line 6 (work.Bget 1 (block 256))
      ∷ line 7 (work.Bget 1 (block 512))
      ∷ line 8 (work.File 1 (call.Mk (a ∷ [])))
      ∷ line 9 (work.File 2 (call.Put (a ∷ []) 0 (codes "hi")))
      ∷ line 10 (work.File 1 (call.Get (a ∷ []) 0 9))
      ∷ line 11 (work.File 2 (call.Rm (a ∷ [])))
      ∷ line 12 (work.File 1 (call.Size (a ∷ []))) ∷ [];
}

abbrev ends : List ℕ → List ℕ → List ℕ
ends text more = text ++ 10 ∷ more

-- with its quotes
abbrev quoted : List ℕ → List ℕ → List ℕ
quoted before text = before ++ 34 ∷ (text ++ 34 ∷ [])

abbrev pub text : List ℕ
text =
    ends (codes "2 v1")
    (ends (quoted (codes "3 v1 ") (codes "hi"))
    (ends (codes "4 v2")
    (ends (codes "5 ok")
    (ends (quoted (codes "6 v2 ") (codes "yo"))
    (ends (codes "7 v0 absent")
    (ends (codes "8 ino 648")
    (ends (codes "9 ok")
    (ends (quoted (codes "10 ") (codes "hi"))
    (ends (codes "11 ok")
    (ends (codes "12 noentry")
    (ends (codes "end 11 0") [])))))))))))
