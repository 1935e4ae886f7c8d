mod Elements
mod SlotLaws
mod CodeLaws
mod FunctionLaws
mod ProgramLaws
