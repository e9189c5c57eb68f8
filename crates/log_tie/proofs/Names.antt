-- Names and their numbers.
use Rattle.std.proofs.Common.{◌≡◌, ℕ, zero, suc, ◌==◌, ◌<◌, Bool, true, false, cond, refl, sym, ap, arith}
use Rattle.std.proofs.lemmas.Bool.{ne_eqb}
use Rattle.xfs_base.specs.declared.segment.Pass.{Pass}
use Rattle.xfs_base.specs.declared.segment.SegName.{SegName}
use Rattle.xfs_base.proofs.Booleans.{contrary}
use Rattle.log_tie.specs.Setting.{Setting, name_of, point}

module _ (g : Setting) where
  -- a number is the code of what it says
  pub coded : (x : ℕ) → g.code (g.seq_of x) (g.incarnation_of x) (g.attempt_of x) ≡ x
  coded x = g.names.apart _ x (g.its_seq _ _ _) (g.its_incarnation _ _ _) (g.its_attempt _ _ _)

  -- two numbers of one name are one
  pub one_number : (x y : ℕ) → name_of g x ≡ name_of g y → x ≡ y
  one_number x y e = g.names.apart x y (ap (λ (n : SegName). n.seq) e) (ap (λ (n : SegName). n.pass.inc) e) (ap (λ (n : SegName). n.pass.att) e)

  -- a number whose seq is above 0 is above 0
  pub some_number : (x : ℕ) → 0 < g.seq_of x → 0 < x
  some_number zero h = let none = g.names.none in omega arith
  some_number (suc x) h = omega arith

  -- the name of a coded number
  pub name_coded : (q c a : ℕ) → name_of g (g.code q c a) ≡ record { log = g.log; seq = q; pass = record { inc = c; att = a } }
  name_coded q c a = λ i. record { log = g.log; seq = g.its_seq q c a i; pass = record { inc = g.its_incarnation q c a i; att = g.its_attempt q c a i } }

  -- a point with a pass
  pub point_some : (seq : ℕ) (pass : Pass) → 0 < pass.inc → point g seq pass ≡ g.code seq pass.inc pass.att
  point_some seq pass some = by (pass.inc == 0) (ne_eqb pass.inc 0 (λ e. let h = some in omega arith))
    where
      by : (t : Bool) → t ≡ false → cond t 0 (g.code seq pass.inc pass.att) ≡ g.code seq pass.inc pass.att
      by false e = refl
      by true e = contrary (sym e)
