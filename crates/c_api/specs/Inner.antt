-- What only inner functions cite: what is handed over leaves each field of an answer its bits. No public contract reaches here.
use Rattle.std.specs.Prelude.{◌<◌, ℕ}
use Rattle.report.specs.Answer.{Answer}
use Rattle.report.specs.Answer as answer
use Rattle.c_api.specs.Words.{byte3}

abbrev pub SmallAnswer : Answer ℕ → Type 0
SmallAnswer (answer.refused n place) = place < byte3
SmallAnswer (answer.shown size) = size < byte3
