-- A server that lacks its fragment at two moments, in one generation, lacks it between them, unless the segment is dropped.
use Rattle.std.proofs.Common.{◌≡◌, ℕ, ◌<◌, ◌≤◌, ◌⊎◌, true, is_some, is_none, Option, Some, None, refl, inl, inr, arith}
use Rattle.xfs_base.specs.declared.fragment.Fragment.{Fragment}
use Rattle.xfs_base.specs.declared.segment.SegName.{SegName}
use Rattle.xfs_base.proofs.Booleans.{contrary}
use Rattle.fragment_store.specs.ShelfState.{held_at, is_held}
use Rattle.log_protocol.specs.Tables.{In}
use Rattle.log_tie.specs.Setting.{Setting}
use Rattle.log_law.specs.Net.{Net}
use Rattle.log_law.specs.Net.Packet.{DeleteSent}
use Rattle.log_law.specs.Events.{Runs}
use Rattle.log_law.specs.Events.Runs.{Begun, On}
use Rattle.loss_law.specs.Losses.{LacksIn}
use Rattle.loss_law.proofs.Growing.{Base, Grows}
use Rattle.loss_law.proofs.Events.{grows, base_then}

-- what a server held is held, or its disk was lost, or the segment was dropped
abbrev pub HeldOn : Net → Net → ℕ → SegName → Type 0
HeldOn n o v name = (is_held (o.shelves v) name ≡ true) ⊎ (((n.shelves v).generation < (o.shelves v).generation) ⊎ In name o.dropped)

pub record Passed (g : Setting) (n o : Net) : Type 0 where
  pub base : Base g o
  pub up : (v : ℕ) → (n.shelves v).generation ≤ (o.shelves v).generation
  pub stays : (name : SegName) → In name n.dropped → In name o.dropped
  pub holds : (v : ℕ) (name : SegName) → name.log ≡ g.log → is_held (n.shelves v) name ≡ true → HeldOn n o v name

module _ (g : Setting) where
  held_further : (n m o : Net) (v : ℕ) (name : SegName) → name.log ≡ g.log → Base g m → Grows g m o → (n.shelves v).generation ≤ (m.shelves v).generation
      → HeldOn n m v name → HeldOn n o v name
  held_further n m o v name own base grown up (inl held) = by ((grown.shelves v).holds name own held)
    where
      by : (is_held (o.shelves v) name ≡ true) ⊎ (((m.shelves v).generation < (o.shelves v).generation) ⊎ In (DeleteSent name) m.sent) → HeldOn n o v name
      by (inl fact) = inl fact
      by (inr (inl less)) = inr (inl (omega arith))
      by (inr (inr sent)) = inr (inr (grown.stays name (base.packets (DeleteSent name) sent)))
  held_further n m o v name own base grown up (inr (inl less)) = inr (inl (let a = (grown.shelves v).up in omega arith))
  held_further n m o v name own base grown up (inr (inr fact)) = inr (inr (grown.stays name fact))

  pub passed : (n o : Net) → Base g n → Runs g n o → Passed g n o
  passed n o base Begun = record { base = base; up = λ v. omega arith; stays = λ name fact. fact; holds = λ v name own fact. inl fact }
  passed n o base (On {m = m} run e) = on (passed n m base run)
    where
      on : Passed g n m → Passed g n o
      on p = let grown : Grows g m o = grows g m o p.base e in record {
        base = base_then g m o p.base e;
        up = λ v. (let a = p.up v in let b = (grown.shelves v).up in omega arith);
        stays = λ name fact. grown.stays name (p.stays name fact);
        holds = λ v name own fact. held_further n m o v name own p.base grown (p.up v) (p.holds v name own fact);
      }

  -- at a moment up to this one the server lacked the segment, in this generation
  pub record Before (name : SegName) (n : Net) (v generation : ℕ) : Type 0 where
    pub moment : Net
    pub base : Base g moment
    pub later : Runs g moment n
    pub lacks : LacksIn name v generation moment

  -- so it did at a moment from that one on and up to this one
  pub record Between (name : SegName) (m n : Net) (v generation : ℕ) : Type 0 where
    pub moment : Net
    pub first : Runs g m moment
    pub later : Runs g moment n
    pub lacks : LacksIn name v generation moment

  none_left : (o : Option Fragment) → (is_some o ≡ true → ⊥) → is_none o ≡ true
  none_left None never = refl
  none_left (Some f) never = absurd (never refl)

  not_held : (o : Option Fragment) → o ≡ None → is_some o ≡ true → ⊥
  not_held None e fact = contrary fact
  not_held (Some f) e fact = absurd cc

  pub lacks_between : (name : SegName) (m n : Net) (v generation : ℕ) → name.log ≡ g.log → Base g m → Before name m v generation → Between name m n v generation
      → (In name n.dropped → ⊥) → is_none (held_at (m.shelves v).held name) ≡ true
  lacks_between name m n v generation own base one two kept = none_left (held_at (m.shelves v).held name) unheld
    where
      to : Passed g one.moment m
      to = passed one.moment m one.base one.later

      on : Passed g m two.moment
      on = passed m two.moment base two.first

      end : Passed g two.moment n
      end = passed two.moment n on.base two.later

      unheld : is_held (m.shelves v) name ≡ true → ⊥
      unheld held = by (on.holds v name own held)
        where
          by : HeldOn m two.moment v name → ⊥
          by (inl fact) = not_held (held_at (two.moment.shelves v).held name) two.lacks.nothing fact
          by (inr (inl less)) = let a = to.up v in let b = one.lacks.in_generation in let c = two.lacks.in_generation in omega arith
          by (inr (inr fact)) = kept (end.stays name fact)
