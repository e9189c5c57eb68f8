-- Calls of two clients on an empty table, with their replies.
use Rattle.std.specs.Prelude.{ℕ, zero, suc, ◌+◌, List, [], ◌∷◌, ◌++◌, replicate, Option, Some, None}
use Rattle.version_model.specs.declared.answer.Answer.{Answer}
use Rattle.version_model.specs.declared.answer.Answer.TheVariants.{Done, Made, Bytes, Size, Names, File}
use Rattle.version_model.specs.declared.answer.FileFault.TheVariants.{NoEntry, Exists, NotDir, IsDir, BadName, TooBig}
use Rattle.version_model.specs.declared.file_call.FileCall.TheVariants as call
use Rattle.file_plan.specs.Names.{Name}
use Rattle.file_plan.specs.declared.block_call.BlockAnswer.{BlockAnswer}
use Rattle.file_plan.specs.declared.block_call.Next.{Next}
use Rattle.file_plan.specs.declared.block_call.Next.TheVariants.{Step, Reply}
use Rattle.file_plan.specs.Plan.{plan}
use Rattle.file_plan.specs.Driving.{World, serve, Item, most_steps}

pub record Ended : Type 0 where
  pub reply : Option Answer
  pub world : World

-- the reply of a plan within n steps, and what is then stored
abbrev pub driven : (List BlockAnswer → Next) → ℕ → List BlockAnswer → World → Ended
driven plan zero answers w = record { reply = None; world = w }
driven plan (suc n) answers w =
    elim (plan answers) [
      | Reply answer ↦ record { reply = Some answer; world = w }
      | Step call ↦ driven plan n (answers ++ (serve w call).answer ∷ []) (serve w call).world
    ]

abbrev pub replies_of : World → List Item → List (Option Answer)
replies_of w [] = []
replies_of w (item ∷ items) =
    let e = driven (plan item.call item.number item.client) (most_steps item.call + 1) [] w in
    e.reply ∷ replies_of e.world items

-- a, b, d
abbrev pub a : Name
a = 97 ∷ []

abbrev pub b : Name
b = 98 ∷ []

abbrev pub d : Name
d = 100 ∷ []

-- `mk /a`, `put /a 0 "hi"`, `mkdir /d`, `mv /a /d/b`, of client 2 `get /d/b 0 9`, `size /a`, `ls /`; then `put /d/b 4 "!"`, `get /d/b 1 9`, `mk /d`,
-- `get /d/b/a 0 1`,
-- `put /d 0 ""`, `put /d/b 1048576 "!"`, `mk /..`, `rm /d/b`, `size /d/b`, `ls /d`
abbrev pub calls : List Item
calls =
    record { call = call.Mk (a ∷ []); number = 1; client = 1 }
    ∷ record { call = call.Put (a ∷ []) 0 (104 ∷ 105 ∷ []); number = 2; client = 1 }
    ∷ record { call = call.Mkdir (d ∷ []); number = 3; client = 1 }
    ∷ record { call = call.Mv (a ∷ []) (d ∷ b ∷ []); number = 4; client = 1 }
    ∷ record { call = call.Get (d ∷ b ∷ []) 0 9; number = 1; client = 2 }
    ∷ record { call = call.Size (a ∷ []); number = 2; client = 2 }
    ∷ record { call = call.Ls []; number = 3; client = 2 }
    ∷ record { call = call.Put (d ∷ b ∷ []) 4 (33 ∷ []); number = 5; client = 1 }
    ∷ record { call = call.Get (d ∷ b ∷ []) 1 9; number = 4; client = 2 }
    ∷ record { call = call.Mk (d ∷ []); number = 6; client = 1 }
    ∷ record { call = call.Get (d ∷ b ∷ a ∷ []) 0 1; number = 7; client = 1 }
    ∷ record { call = call.Put (d ∷ []) 0 []; number = 8; client = 1 }
    ∷ record { call = call.Put (d ∷ b ∷ []) 1048576 (33 ∷ []); number = 9; client = 1 }
    ∷ record { call = call.Mk ((46 ∷ 46 ∷ []) ∷ []); number = 10; client = 1 }
    ∷ record { call = call.Rm (d ∷ b ∷ []); number = 11; client = 1 }
    ∷ record { call = call.Size (d ∷ b ∷ []); number = 5; client = 2 }
    ∷ record { call = call.Ls (d ∷ []); number = 6; client = 2 } ∷ []

abbrev pub told : List (Option Answer)
told =
    Some (Made 136) ∷ Some Done ∷ Some (Made 392) ∷ Some Done ∷ Some (Bytes (104 ∷ 105 ∷ [])) ∷ Some (File NoEntry) ∷ Some
    (Names ((100 ∷ 47 ∷ []) ∷ [])) ∷ Some Done
    ∷ Some (Bytes (105 ∷ 0 ∷ 0 ∷ 33 ∷ [])) ∷ Some (File Exists) ∷ Some (File NotDir) ∷ Some (File IsDir) ∷ Some (File TooBig)
    ∷ Some (File BadName) ∷ Some Done ∷ Some (File NoEntry) ∷ Some (Names []) ∷ []

-- ---- longer texts

-- home, a.txt
abbrev pub home : Name
home = 104 ∷ 111 ∷ 109 ∷ 101 ∷ []

abbrev pub a_txt : Name
a_txt = 97 ∷ 46 ∷ 116 ∷ 120 ∷ 116 ∷ []

abbrev pub long_calls : List Item
long_calls =
    record { call = call.Mkdir (home ∷ []); number = 1; client = 1 }
    ∷ record { call = call.Mk (home ∷ a_txt ∷ []); number = 2; client = 1 }
    ∷ record { call = call.Put (home ∷ a_txt ∷ []) 0 (replicate 10000 120); number = 3; client = 1 }
    ∷ record { call = call.Ls (home ∷ []); number = 1; client = 2 }
    ∷ record { call = call.Size (home ∷ a_txt ∷ []); number = 2; client = 2 }
    ∷ record { call = call.Get (home ∷ a_txt ∷ []) 4090 12; number = 3; client = 2 }
    ∷ record { call = call.Rm (home ∷ a_txt ∷ []); number = 4; client = 2 }
    ∷ record { call = call.Get (home ∷ a_txt ∷ []) 0 1; number = 4; client = 1 }
    ∷ record { call = call.Mk (replicate 60 97 ∷ []); number = 5; client = 1 }
    ∷ record { call = call.Mk (replicate 61 97 ∷ []); number = 6; client = 1 } ∷ []

abbrev pub long_told : List (Option Answer)
long_told =
    Some (Made 136) ∷ Some (Made 264) ∷ Some Done ∷ Some (Names (a_txt ∷ [])) ∷ Some (Size 10000) ∷ Some (Bytes (replicate 12 120))
    ∷ Some Done ∷ Some (File NoEntry) ∷ Some (Made 648) ∷ Some (File BadName) ∷ []
