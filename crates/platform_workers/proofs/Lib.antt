mod AnswerLemmas
mod CallLemmas
mod EachLemmas
mod WorkerLemmas
