mod AnsweringLemmas
mod PointerValues
mod LooseValues
