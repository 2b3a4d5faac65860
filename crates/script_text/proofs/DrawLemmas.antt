-- How far numbers go that are drawn.
use Rattle.std.proofs.Common.{ℕ, ◌/◌, ◌<◌, ◌≤◌, arith}
use Rattle.std.proofs.lemmas.Nat.{mod_below}
use Rattle.script_text.specs.declared.draws.Draft.{Draft}
use Rattle.script_text.specs.Draws.{draw, next_number}
use Rattle.script_text.specs.Generated.{draft}

-- what is drawn is below the bound
pub draw_below : (bound number : ℕ) → 0 < bound → (draw bound number).0 < bound
unfolding draw
draw_below bound number some = mod_below (next_number number / 65536) bound some

-- a message of one of the four ids and of at most 64 bytes
pub record IsSmall (message : Draft) : Type 0 where
  pub id : message.id ≤ 65535
  pub least : 7 ≤ message.size
  pub greatest : message.size ≤ 64
  pub fill : message.fill ≤ 255

pub draft_small : (number : ℕ) → IsSmall (draft number).0
unfolding draft
draft_small number =
    let after_app = (draw 4 number).1 in
    let after_size = (draw 58 after_app).1 in
    record {
      id = omega (arith, draw_below 4 number (omega arith));
      least = omega arith;
      greatest = omega (arith, draw_below 58 after_app (omega arith));
      fill = omega (arith, draw_below 256 after_size (omega arith));
    }
