mod DrawLemmas
mod DrawExamples
