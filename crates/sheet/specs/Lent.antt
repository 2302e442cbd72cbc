-- The memory of a replay as calls are lent it. Assumes nothing.
use Rattle.std.specs.Prelude.{length, replicate, vec_items}
use Rattle.model.specs.Run.{Lent}
use Rattle.sheet.specs.declared.events.Sizes.{Sizes}
use Rattle.sheet.specs.declared.memory.Memory.{Memory}

-- memory of these lengths, all zero
abbrev pub zeros : Sizes → Lent
zeros z = record {
  column = replicate z.column 0;
  line = z.line;
  arrows = replicate z.arrows (record { from = 0; to = 0 });
  restarts = replicate z.restarts 0;
  buffer = replicate z.buffer 0;
}

-- what calls are lent of a memory
abbrev pub lent_of : Memory → Lent
lent_of m = record {
  column = vec_items m.column;
  line = length (vec_items m.line);
  arrows = vec_items m.arrows;
  restarts = vec_items m.restarts;
  buffer = vec_items m.buffer;
}
